-- The kernel accepts EINTR for a request that was marked: its call is answered EINTR, and the plain world's ask ends
-- so.
use Rattle.std.proofs.lemmas.List.Elements.{All-nil}
use Rattle.fuse_spec.specs.declared.Entry.{Entry}
use Rattle.fuse_theorem.proofs.Refining.JudgedReplies.{received_is}
use Rattle.std.proofs.Common.{◌≡◌, ℕ, Bool, true, ◌&&◌, is_some, List, [], ◌∷◌, ◌++◌, Option, Some, None, refl, ap, sym, subst, ◌∙◌}
use Rattle.fuse_spec.specs.declared.Opened.{Opened}
use Rattle.fuse_spec.specs.declared.ReplyResult.{ReplyResult}
use Rattle.fuse_spec.specs.declared.WriteResult.{WriteResult}
use Rattle.fuse_spec.specs.declared.WriteResult.TheVariants.{Accepted}
use Rattle.fuse_spec.specs.Values.Maps.{get}
use Rattle.fuse_spec.specs.Calls.Answers as answer
use Rattle.fuse_spec.specs.Files.Operations.{Operation, failed, OptionAlike}
use Rattle.fuse_spec.specs.Calls.Vfs.{CallState, walking, doing, using, asked, answered}
use Rattle.fuse_spec.specs.Kernel.QueueCalls.{without}
use Rattle.fuse_spec.specs.Kernel.Messages.{WireReply}
use Rattle.fuse_spec.specs.Kernel.Kernel.{Kernel, is_live, after_use}
use Rattle.fuse_spec.specs.Kernel.Replies.{goes_with, replied_to_call, replied, judged, usable}
use Rattle.fuse_spec.specs.World.Worlds.{World, Sent, after_write}
use Rattle.fuse_spec.specs.World.Events as event
use Rattle.fuse_spec.specs.Reference.Plain.{Plain, Ask, Stage, ask_interrupted}
use Rattle.fuse_spec.specs.Reference.PlainSteps.{Takes, delivering, delivering_reply, where_so}
use Rattle.fuse_spec.specs.Claim.Denotes.{NodeDenotesIn, OpenDenotesIn, StateAlike, generation_known}
use Rattle.fuse_spec.specs.Claim.Alike.{Alike}
use Rattle.fuse_spec.proofs.QueueSoundness.{IsSound-without}
use Rattle.fuse_theorem.specs.Numbering.{IsNumbered}
use Rattle.fuse_theorem.specs.Conditions.{OneId, IsDeclined}
use Rattle.fuse_theorem.proofs.Refining.LookedUp.{one_to_one}
use Rattle.fuse_theorem.proofs.Refining.Writing.{unsent_alike, used_alike, declined_alike}

goes_failed : (operation : Operation ℕ Opened) (errno : ℕ) → goes_with operation (failed errno) ≡ true
goes_failed operation errno = refl

module _ (w : World) (p : Plain) (numbered : IsNumbered w) (one : OneId w.server.nodes) (same : Alike w p)
    (live : is_live w.kernel.phase ≡ true) (k : ℕ) (sent : Sent) (call : ℕ) (state : CallState Opened)
    (is : IsDeclined w p sent call state) where
  abbrev k1 : Kernel
  k1 = record w.kernel { queues = without w.kernel.queues sent.unique }

  abbrev k2 : Kernel
  k2 = record k1 { vfs = answered w.kernel.vfs call (answer.failed 4) }

  abbrev q : Plain
  q = ask_interrupted p sent.unique is.ask

  other_state : (o : Option (CallState ℕ)) → OptionAlike (StateAlike (NodeDenotesIn w) (OpenDenotesIn w)) (Some state) o
      → (s : CallState ℕ) × (o ≡ Some s) × StateAlike (NodeDenotesIn w) (OpenDenotesIn w) state s
  other_state None h = absurd h
  other_state (Some s) h = (s, refl, h)

  other : (s : CallState ℕ) × (get p.vfs.calls call ≡ Some s) × StateAlike (NodeDenotesIn w) (OpenDenotesIn w) state s
  other = other_state (get p.vfs.calls call) (subst
      (λ (o : Option (CallState Opened)). OptionAlike (StateAlike (NodeDenotesIn w) (OpenDenotesIn w)) o
      (get p.vfs.calls call)) is.state_is (same.vfs.calls call))

  -- its call is unanswered in the plain world too
  unanswered : is_some (get p.vfs.calls is.ask.call) ≡ true
  unanswered = ap (λ (n : ℕ). is_some (get p.vfs.calls n)) is.by_call ∙ ap is_some other.1

  reply_matches : Alike (record w { kernel = k2 }) q
  reply_matches =
      declined_alike w p numbered
      (one_to_one w.kernel.nodes w.server.nodes one) same live sent.unique call is.request is.ask state other.0 is.under is.serves is.there is.by_call other.1 other.2 is.stage

  -- what the kernel makes of it
  took_is : (s : CallState Opened) → replied k1 call s true (failed 4) ≡ (Accepted, after_use k2 s)
  took_is s = ap (λ (l : Kernel). (Accepted, l)) (ap (λ (l : Kernel). after_use l s)
      (received_is k1 call s (failed 4) (record {
        judged = refl;
        none_stale = refl;
        is_usable = refl;
        known = All-nil (λ (g : Entry). generation_known k1.nodes g.nodeid ≡ Some g.generation);
      })) ∙ by s)
    where
      by : (x : CallState Opened) → after_use (judged k1 call x (failed 4) usable) x ≡ after_use k2 x
      by (walking d word words plan) = refl
      by (doing operation) = refl
      by (using open_call operation) = refl

  replied_is : replied_to_call k1 call sent.wire (get w.kernel.vfs.calls call) ≡ (Accepted, after_use k2 state)
  replied_is =
      ap (λ (o : Option (CallState Opened)). replied_to_call k1 call sent.wire o) is.state_is ∙ ap
      (λ (x : WireReply). replied k1 call state (goes_with (asked state) x) x) is.wire_is
      ∙ ap (λ (b : Bool). replied k1 call state b (failed 4)) (goes_failed (asked state) 4) ∙ took_is state

  pub accepts : (replied_to_call k1 call sent.wire (get w.kernel.vfs.calls call)).0 ≡ Accepted
  accepts = ap (λ (took : WriteResult × Kernel). took.0) replied_is

  abbrev results : List ReplyResult
  results = w.results ++ record { number = sent.number; unique = sent.unique; result = Accepted } ∷ []

  pub eintr_goes : (q' : Plain) × Takes p (event.write k) (event.written sent.unique Accepted) q'
      × Alike (after_write w k sent (replied_to_call k1 call sent.wire (get w.kernel.vfs.calls call))) q'
  eintr_goes = (
    q,
    (
      0,
      ap (λ (o : Option Ask). delivering p sent.unique 0 o) is.there ∙ ap
          (λ (s : Stage). delivering_reply p sent.unique 0 is.ask s) is.stage ∙ ap
          (λ (b : Bool). where_so (b && is_some (get p.vfs.calls is.ask.call)) q) is.noted ∙ ap
          (λ (b : Bool). where_so b q) unanswered,
    ),
    subst (λ (took : WriteResult × Kernel). Alike (after_write w k sent took) q) (sym replied_is)
        (unsent_alike (record w { kernel = after_use k2 state }) q
        (used_alike (record w { kernel = k2 }) q
        (IsSound-without w.kernel.queues sent.unique numbered.queues) live reply_matches state) k results),
  )
