-- The kernel takes a reply that reaches no call: under a number that nothing awaits, or to INIT, a RELEASE or an
-- INTERRUPT. All stays alike, and the plain world takes no step.
use Rattle.fuse_spec.specs.Values.Numbers.{init_flags}
use Rattle.fuse_spec.specs.Server.Performs.{init_reply}
use Rattle.fuse_spec.specs.declared.Minor.TheVariants.{M15, M31}
use Rattle.fuse_spec.specs.declared.Minor.{Minor}
use Rattle.std.proofs.Common.{◌≡◌, ℕ, ◌-◌, ◌%◌, Bool, true, false, cond, List, [], ◌∷◌, ◌++◌, Option, Some, None, nat_eq, refl, ap, sym, subst, ◌∙◌, arith}
use Rattle.std.specs.Option.{option_map_or}
use Rattle.std.proofs.lemmas.Bool.Decides.{nat_tests}
use Rattle.fuse_spec.specs.declared.InterruptReplyEffect.{InterruptReplyEffect}
use Rattle.fuse_spec.specs.declared.InterruptReplyEffect.TheVariants.{QueuedAgain, TurnedOff, None as NoReplyEffect}
use Rattle.fuse_spec.specs.declared.Mark.{Mark}
use Rattle.fuse_spec.specs.declared.Opened.{Opened}
use Rattle.fuse_spec.specs.declared.Purpose.{Purpose}
use Rattle.fuse_spec.specs.declared.Purpose.TheVariants as purpose
use Rattle.fuse_spec.specs.declared.ReplyResult.{ReplyResult}
use Rattle.fuse_spec.specs.declared.WriteResult.{WriteResult}
use Rattle.fuse_spec.specs.declared.WriteResult.TheVariants.{Accepted, NoEntry, Invalid}
use Rattle.fuse_spec.specs.Values.Maps.{get}
use Rattle.fuse_spec.specs.Files.Operations.{found, missing, created, opened, attributes, listed, listed_plus, content, written, agreed, done, failed}
use Rattle.fuse_spec.specs.Kernel.Queues.{QueueState, mark_under}
use Rattle.fuse_spec.specs.Kernel.QueueCalls.{waiting, without, after_reply_effect, after_interrupt_reply}
use Rattle.fuse_spec.specs.Kernel.Messages.{WireReply}
use Rattle.fuse_spec.specs.Kernel.Kernel.{Kernel, is_live}
use Rattle.fuse_spec.specs.Kernel.Replies.{is_empty_reply, write_result_of, ended_by, request_reply_written, interrupt_reply_written, interrupt_replied, interrupt_reply_of, reply_written, made_ready}
use Rattle.fuse_spec.specs.World.Worlds.{World, Sent, after_write}
use Rattle.fuse_spec.specs.World.Events as event
use Rattle.fuse_spec.specs.Reference.Plain.{Plain, Ask}
use Rattle.fuse_spec.specs.Reference.PlainSteps.{Takes, delivering}
use Rattle.fuse_spec.specs.Claim.Alike.{Alike}
use Rattle.fuse_theorem.specs.Numbering.{IsNumbered}
use Rattle.fuse_theorem.specs.Conditions.{awaiting}
use Rattle.fuse_theorem.proofs.Answers.Answered.{unasked, ended_stay, ready_alike}
use Rattle.fuse_theorem.proofs.Refining.Queuing.{queues_alike}
use Rattle.fuse_theorem.proofs.Refining.Reading.{same_requests}
use Rattle.fuse_theorem.proofs.Refining.NoAsk.{odd_unasked}
use Rattle.fuse_theorem.proofs.Refining.Writing.{unsent_alike}

-- What the kernel makes of a copy: a result and a kernel that the plain world does not see.
abbrev Unseen : World → Plain → ℕ → Sent → WriteResult × Kernel → Type 0
Unseen w p k sent took = Takes p (event.write k) (event.written sent.unique took.0) p
    × Alike (after_write w k sent took) p

-- the server's reply to INIT is accepted
init_accepted : (k : Kernel) (m : Minor) → ended_by k purpose.Init (init_reply m init_flags)
    ≡ (Accepted, made_ready k (init_reply m init_flags))
init_accepted k M15 = refl
init_accepted k M31 = refl

module _ (w : World) (p : Plain) (same : Alike w p) (k : ℕ) (sent : Sent) where
  abbrev results : WriteResult → List ReplyResult
  results r = w.results ++ record { number = sent.number; unique = sent.unique; result = r } ∷ []

  -- Nothing awaits it.
  pub no_entry : awaiting w.kernel sent.unique ≡ None → Unseen w p k sent (reply_written w.kernel sent.unique sent.wire)
  no_entry none =
      subst (Unseen w p k sent) (sym (by (nat_eq (sent.unique % 2) 1) (waiting w.kernel.queues (sent.unique - 1))
      (waiting w.kernel.queues sent.unique) none)) ((0, refl), unsent_alike w p same k (results NoEntry))
    where
      by : (b : Bool) (odd even : Option Purpose) → cond b odd even ≡ None
          → cond b (interrupt_reply_written w.kernel sent.unique sent.wire odd)
          (request_reply_written w.kernel sent.unique sent.wire even) ≡ (NoEntry, w.kernel)
      by true odd even e = ap (interrupt_reply_written w.kernel sent.unique sent.wire) e
      by false odd even e = ap (request_reply_written w.kernel sent.unique sent.wire) e

  module _ (numbered : IsNumbered w) (live : is_live w.kernel.phase ≡ true) where
    -- A result takes no step where nothing is asked under the number.
    unseen_result : (r : WriteResult) → get p.asks sent.unique ≡ None
        → Takes p (event.write k) (event.written sent.unique r) p
    unseen_result Accepted none = (0, ap (λ (o : Option Ask). delivering p sent.unique 0 o) none)
    unseen_result NoEntry none = (0, refl)
    unseen_result Invalid none = (0, refl)

    module _ (even : nat_eq (sent.unique % 2) 1 ≡ false) where
      abbrev left : Kernel
      left = record w.kernel { queues = without w.kernel.queues sent.unique }

      written_is : (kept : Purpose) → waiting w.kernel.queues sent.unique ≡ Some kept
          → reply_written w.kernel sent.unique sent.wire ≡ ended_by left kept sent.wire
      written_is kept waits =
          ap (λ (b : Bool). cond b (interrupt_reply_written w.kernel sent.unique sent.wire
          (waiting w.kernel.queues (sent.unique - 1))) (request_reply_written w.kernel sent.unique sent.wire
          (waiting w.kernel.queues sent.unique))) even
          ∙ ap (request_reply_written w.kernel sent.unique sent.wire) waits

      -- A RELEASE ends, whatever the reply says.
      pub release_ends : (o : Opened) → waiting w.kernel.queues sent.unique ≡ Some (purpose.Release o)
          → Unseen w p k sent (reply_written w.kernel sent.unique sent.wire)
      release_ends o waits =
          let ended = queues_alike w p same (without w.kernel.queues sent.unique) w.requests
          (ended_stay w p numbered same live sent.unique (purpose.Release o) waits
          (λ call. refl)) same.requests.sent in
          let r = write_result_of (is_empty_reply sent.wire) in
          subst (Unseen w p k sent) (sym (written_is (purpose.Release o) waits)) (
            unseen_result r (unasked w p numbered same live sent.unique (purpose.Release o) waits (λ call. refl)),
            unsent_alike (record w { kernel = left }) p ended k (results r),
          )

      -- INIT ends with an agreement on the server's minor, and the mount is ready.
      pub init_ends : waiting w.kernel.queues sent.unique ≡ Some purpose.Init
          → sent.wire ≡ init_reply w.server.minor init_flags
          → Unseen w p k sent (reply_written w.kernel sent.unique sent.wire)
      init_ends waits agrees =
          let ended = queues_alike w p same (without w.kernel.queues sent.unique) w.requests
          (ended_stay w p numbered same live sent.unique purpose.Init waits (λ call. refl)) same.requests.sent in
          let ready = ready_alike (record w { kernel = left }) live p ended in
          subst (Unseen w p k sent) (sym (written_is purpose.Init waits ∙ ap
          (ended_by left purpose.Init) agrees ∙ init_accepted left w.server.minor)) (
            unseen_result Accepted (unasked w p numbered same live sent.unique purpose.Init waits (λ call. refl)),
            unsent_alike (record w { kernel = made_ready left (init_reply w.server.minor init_flags) }) p ready k
                (results Accepted),
          )

    module _ (odd : nat_eq (sent.unique % 2) 1 ≡ true) where
      -- what a reply to an INTERRUPT makes of the queues leaves the requests
      same_left : (q : QueueState Purpose) (original : ℕ) (effect : InterruptReplyEffect)
          → (after_reply_effect q original effect).requests ≡ q.requests
      same_left q original QueuedAgain = refl
      same_left q original TurnedOff = refl
      same_left q original NoReplyEffect = refl

      requests_left : (q : QueueState Purpose) (original : ℕ) (f : Mark → InterruptReplyEffect) (o : Option Mark)
          → (option_map_or (λ mark. after_reply_effect q original (f mark)) o q).requests ≡ q.requests
      requests_left q original f None = refl
      requests_left q original f (Some mark) = same_left q original (f mark)

      -- A reply to an INTERRUPT, whatever it says.
      pub interrupt_replied_to : (kept : Purpose) → waiting w.kernel.queues (sent.unique - 1) ≡ Some kept
          → Unseen w p k sent (reply_written w.kernel sent.unique sent.wire)
      interrupt_replied_to kept waits =
          subst (Unseen w p k sent)
          (sym (ap (λ (b : Bool). cond b (interrupt_reply_written w.kernel sent.unique sent.wire
          (waiting w.kernel.queues (sent.unique - 1))) (request_reply_written w.kernel sent.unique sent.wire
          (waiting w.kernel.queues sent.unique))) odd
          ∙ ap (interrupt_reply_written w.kernel sent.unique sent.wire) waits)) (by sent.wire)
        where
          none : get p.asks sent.unique ≡ None
          none = odd_unasked w p numbered.queues same live sent.unique (λ e. absurd (grind (arith, nat_tests, odd, e)))

          same_kernel : (r : WriteResult) → Unseen w p k sent (r, w.kernel)
          same_kernel r = (unseen_result r none, unsent_alike w p same k (results r))

          by : (wire : WireReply) → Unseen w p k sent (interrupt_replied w.kernel (sent.unique - 1) wire)
          by (failed errno) =
              let q = after_interrupt_reply w.kernel.queues (sent.unique - 1) (interrupt_reply_of errno) in
              let left : q.requests ≡ w.kernel.queues.requests =
              requests_left w.kernel.queues (sent.unique - 1) (λ mark. _)
              (mark_under w.kernel.queues (sent.unique - 1)) in (
                unseen_result Accepted none,
                unsent_alike (record w { kernel = record w.kernel { queues = q } }) p
                    (queues_alike w p same q w.requests (same_requests w p same q left) same.requests.sent) k
                    (results Accepted),
              )
          by done = same_kernel Accepted
          by (found g v) = same_kernel Invalid
          by (missing v) = same_kernel Invalid
          by (created g v fh) = same_kernel Invalid
          by (opened fh) = same_kernel Invalid
          by (attributes a) = same_kernel Invalid
          by (listed xs) = same_kernel Invalid
          by (listed_plus xs) = same_kernel Invalid
          by (content xs) = same_kernel Invalid
          by (written n) = same_kernel Invalid
          by (agreed a b flags) = same_kernel Invalid
