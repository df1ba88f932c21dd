-- How a frame is served, by what the server's calls did.
use Rattle.std.proofs.Common.{◌≡◌, ◌≢◌, ◌∙◌, ℕ, List, Option, Some, None, Bool, true, false, refl, sym, ap, subst, true≢false, is_some, inl, inr}
use Rattle.std.specs.Prelude.{◌⊎◌}
use Rattle.fuse_spec.specs.Kernel.Messages.{Request, WireReply}
use Rattle.fuse_spec.specs.Server.Server.{Server}
use Rattle.fuse_spec.specs.Server.Taking.{taking}
use Rattle.fuse_spec.specs.World.Worlds.{Sent}
use Rattle.fuse_spec.specs.declared.Refusal.{Refusal}
use Rattle.fuse_spec.specs.declared.Refusal.TheVariants.{NoMemory}
use Rattle.fuse_spec.specs.declared.Taken.TheVariants.{Held}
use Rattle.fs_server.specs.Effects.{PerformsHeld, RefusesHeld, TakesFrame, copy_of}
use Rattle.fs_server.specs.Steps.{CanPerform}
use Rattle.fs_server.specs.declared.server.Taken.{Taken}
use Rattle.callers.specs.declared.virtual_machine.Served.{Served}
use Rattle.callers.specs.declared.virtual_machine.Served.TheVariants.{Replied, NoReply, NoRoom, Waits, Refused}
use Rattle.callers.specs.Serving.{Holds, IsDelivered, IsFrameServed, Sends, ServesOne, after_taking, at_once, nothing, performed}

-- What an Option has, where it has something.
or : {A : Type 0} → A → Option A → A
or a None = a
or a (Some b) = b

is_same : {A : Type 0} (a b : A) → Some a ≡ Some b → a ≡ b
unfolding or
is_same a b same = ap (or a) same

-- What is sent of a frame and handed over serves it.
delivered : (old sent new : Server) (frame : List ℕ) (capacity : ℕ) (before after : List ℕ) (copy : Sent)
    → ServesOne old frame (Some copy) sent → (came : Served) → IsDelivered sent copy capacity before came new after
    → IsFrameServed old frame capacity before came new after
delivered old sent new frame capacity before after copy serves Replied is = (copy, sent, serves, is)
delivered old sent new frame capacity before after copy serves NoRoom is = (copy, sent, serves, is)
delivered old sent new frame capacity before after copy serves NoReply never = absurd never
delivered old sent new frame capacity before after copy serves (Waits unique) never = absurd never
delivered old sent new frame capacity before after copy serves (Refused fault) never = absurd never

-- The copy that is sent at once is that of the reply.
of_copy : (old : Server) (request : Request) (reply : Option WireReply) (copy : Sent)
    → reply ≡ (taking old request.unique request.body).reply
    → Some copy ≡ copy_of old.next_copy request.unique reply → Sends old request (Some copy) (after_taking old request)
of_copy old request None copy said same = absurd (true≢false (ap is_some same))
of_copy old request (Some wire) copy said same =
    let whole : Sent = record { number = old.next_copy; unique = request.unique; wire = wire } in
    subst (λ (c : Sent). Sends old request (Some c) (after_taking old request)) (sym (is_same copy whole same))
    (at_once wire (sym said))

-- Where no copy is sent at once there is no reply.
no_copy : (number unique : ℕ) (reply : Option WireReply) → None ≡ copy_of number unique reply → reply ≡ None
no_copy number unique None same = refl
no_copy number unique (Some wire) same = absurd (true≢false (sym (ap is_some same)))

module _ {A : Type 0} (old taken : Server) (frame : List ℕ) (took : Taken A) (takes : TakesFrame old frame took taken)
  where
    serves_at_once : (copy : Sent) → took.sent ≡ Some copy → ServesOne old frame (Some copy) taken
    serves_at_once copy there = record {
      request = takes.request;
      says = takes.says;
      sends = subst (Sends old takes.request (Some copy)) (sym takes.after)
          (of_copy old takes.request (taking old takes.request.unique takes.request.body).reply copy refl
          (sym there ∙ takes.copy));
    }

    pub served_at_once : (new : Server) (capacity : ℕ) (before after : List ℕ) (copy : Sent) (came : Served)
        → took.sent ≡ Some copy → IsDelivered taken copy capacity before came new after
        → IsFrameServed old frame capacity before came new after
    served_at_once new capacity before after copy came there is =
        delivered old taken new frame capacity before after copy (serves_at_once copy there) came is

    -- Nothing is sent of what is neither held nor answered.
    pub serves_nothing : took.sent ≡ None → took.word ≢ Held → ServesOne old frame None taken
    serves_nothing none other = record {
      request = takes.request;
      says = takes.says;
      sends = subst (Sends old takes.request None) (sym takes.after)
          (nothing (no_copy old.next_copy takes.request.unique
          (taking old takes.request.unique takes.request.body).reply (sym none ∙ takes.copy))
          (λ held. other (sym takes.as_word ∙ held)));
    }

    -- What is held is performed.
    pub serves_later : (new : Server) (errno : ℕ) (sent : Option Sent) → took.word ≡ Held
        → PerformsHeld taken took.unique errno sent new → ServesOne old frame sent new
    serves_later new errno sent held performs = record {
      request = takes.request;
      says = takes.says;
      sends = performed (takes.as_word ∙ held) errno sent new
          (subst (λ u. PerformsHeld (after_taking old takes.request) u errno sent new) (sym takes.under)
          (subst (λ (s : Server). PerformsHeld s took.unique errno sent new) takes.after performs));
    }

    pub served_later : (did new : Server) (capacity : ℕ) (before after : List ℕ) (errno : ℕ) (sent : Option Sent)
        (copy : Sent) (came : Served) → took.word ≡ Held → PerformsHeld taken took.unique errno sent did
        → sent ≡ Some copy → IsDelivered did copy capacity before came new after
        → IsFrameServed old frame capacity before came new after
    served_later did new capacity before after errno sent copy came held performs there is =
        delivered old did new frame capacity before after copy
        (subst (λ (s : Option Sent). ServesOne old frame s did) there (serves_later did errno sent held performs)) came is

    -- What is held and cannot be performed waits.
    pub waits : (new : Server) (refusal : Refusal) → took.word ≡ Held → new ≡ taken
        → RefusesHeld taken took.unique refusal ⊎ (refusal ≡ NoMemory) → (refusal ≡ NoMemory → CanPerform taken took.unique)
        → Holds old frame took.unique new
    waits new refusal held same refuses can = record {
      request = takes.request;
      says = takes.says;
      under = sym takes.under;
      held = takes.as_word ∙ held;
      after = same ∙ takes.after;
      refusal = refusal;
      refused = subst (λ (s : Server). RefusesHeld s took.unique refusal ⊎ ((refusal ≡ NoMemory)
          × CanPerform s took.unique)) (sym same) (by refuses);
    }
      where
        by : RefusesHeld taken took.unique refusal ⊎ (refusal ≡ NoMemory)
            → RefusesHeld taken took.unique refusal ⊎ ((refusal ≡ NoMemory) × CanPerform taken took.unique)
        by (inl judged) = inl judged
        by (inr none) = inr (none, can none)
