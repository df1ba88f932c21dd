-- A call that is over stays over, whatever becomes of the kernel.
use Rattle.std.proofs.Common.{◌≡◌, ◌≢◌, ℕ, ◌+◌, ◌-◌, ◌≤◌, ◌<◌, Bool, true, false, cond, [], ◌∷◌, Option, Some, None, nat_eq, refl, ap, sym, subst, ◌∙◌, arith}
use Rattle.std.specs.Prelude.{◌%◌}
use Rattle.std.specs.Ordering.{nat_cmp, eq_by_cmp}
use Rattle.fuse_spec.specs.declared.IntrEffect.{IntrEffect}
use Rattle.fuse_spec.specs.declared.IntrEffect.TheVariants.{Dequeued, Flagged, Queued, None as NoEffect}
use Rattle.fuse_spec.specs.declared.Opened.{Opened}
use Rattle.fuse_spec.specs.declared.Purpose.{Purpose}
use Rattle.fuse_spec.specs.declared.Purpose.TheVariants as purpose
use Rattle.fuse_spec.specs.Values.Maps.{Map, get}
use Rattle.fuse_spec.specs.Calls.Answers.{Answer}
use Rattle.fuse_spec.specs.Calls.Answers as answer
use Rattle.fuse_spec.specs.Calls.Calls.{Call}
use Rattle.fuse_spec.specs.Calls.CallReplies.{call_replied}
use Rattle.fuse_spec.specs.Calls.Vfs.{asked, CallState, Vfs, answered, begun, all_answered, abandoned}
use Rattle.fuse_spec.specs.Kernel.Kernel.{Kernel, kernel_aborted, is_aborted, advanced, after_use, closed_by, call_begun, after_signal, signalled_at, call_signalled, request_of}
use Rattle.fuse_spec.specs.Kernel.Messages.{WireReply}
use Rattle.fuse_spec.specs.Files.Operations.{done, failed, files_in_reply}
use Rattle.fuse_spec.specs.Kernel.QueueCalls.{waiting, without, after_interrupt, interrupt_effect}
use Rattle.fuse_spec.specs.Kernel.Queues.{QueueState}
use Rattle.fuse_spec.specs.Kernel.Replies.{kernel_reply, looked_up, Use, usable, unusable, stale, goes_with, is_agreement, judged, replied, replied_to_call, ended_by, request_reply_written, interrupt_reply_written, interrupt_replied, reply_written, reply_received, without_stale, reply_judged, use_of_reply, made_ready}
use Rattle.fuse_spec.proofs.Tables.{get_put}
use Rattle.fuse_theorem.proofs.Answers.AnswersStay.{advanced_vfs, used_vfs, closing_vfs}
use Rattle.fuse_theorem.proofs.Calls.AnswerSteps.{ChangesOnly, ChangesCall, answered_changes, begun_changes, replied_changes}
use Rattle.fk_drive_theorem.specs.AnsweredOnce.{AnsweredOnce}

-- ---- the calls alone

pub as_they_were : (c : Vfs Opened) → AnsweredOnce c c
as_they_were c = record { numbers = omega arith; over = λ q low none. none; same = λ q low none a at. at }

pub and_then : (c d e : Vfs Opened) → AnsweredOnce c d → AnsweredOnce d e → AnsweredOnce c e
and_then c d e first rest = record {
  numbers = omega (arith, first.numbers, rest.numbers);
  over = λ q low none. rest.over q (omega (arith, low, first.numbers)) (first.over q low none);
  same = λ q low none a at. first.same q low none a
      (rest.same q (omega (arith, low, first.numbers)) (first.over q low none) a at);
}

-- The answers are collected, the time goes on or a name is dropped.
pub answers_given : (c d : Vfs Opened) → d.calls ≡ c.calls → d.next_call ≡ c.next_call
    → ((q : ℕ) (a : Answer) → get d.answers q ≡ Some a → get c.answers q ≡ Some a) → AnsweredOnce c d
answers_given c d calls coming same = record {
  numbers = omega (arith, coming);
  over = λ q low none. ap (λ (m : Map (CallState Opened)). get m q) calls ∙ none;
  same = λ q low none a at. same q a at;
}

module _ (c : Vfs Opened) where
  -- One call takes a step, which is not over.
  stepped : (coming call : ℕ) (d : Vfs Opened) → ChangesOnly c.calls c.answers coming call d → c.next_call ≤ coming
      → ((q : ℕ) → q < c.next_call → get c.calls q ≡ None → q ≢ call) → AnsweredOnce c d
  stepped coming call d alone later apart = record {
    numbers = let is = alone.coming_call in omega (arith, later, is);
    over = λ q low none. alone.other_calls q (apart q low none) ∙ none;
    same = λ q low none a at. sym (alone.other_answers q (apart q low none)) ∙ at;
  }

  begins : (aborted : Bool) (call : Call) → AnsweredOnce c (begun aborted c call).vfs
  begins aborted call = stepped (c.next_call + 1) c.next_call (begun aborted c call).vfs (begun_changes aborted c call)
      (omega arith) (λ q low none e. absurd (omega (arith, low, e)))

  call_changes : (call : ℕ) (state : CallState Opened) → get c.calls call ≡ Some state → (d : Vfs Opened)
      → ChangesCall c call d → AnsweredOnce c d
  call_changes call state there d alone = stepped c.next_call call d alone (omega arith)
      (λ q low none e. absurd (cc (there, subst (λ (n : ℕ). get c.calls n ≡ None) e none)))

-- The answers to calls that are not among these stay.
answers_left : (a : Answer) (calls : Map (CallState Opened)) (answers : Map Answer) (call : ℕ) → get calls call ≡ None
    → get (all_answered a calls answers) call ≡ get answers call
answers_left a [] answers call none = refl
answers_left a (e ∷ calls) answers call none = get_put (all_answered a calls answers) e.0 a call ∙ by
    (eq_by_cmp nat_cmp call e.0) none (answers_left a calls answers call)
  where
    by : (b : Bool) → cond b (Some e.1) (get calls call) ≡ None
        → (get calls call ≡ None → get (all_answered a calls answers) call ≡ get answers call)
        → cond b (Some a) (get (all_answered a calls answers) call) ≡ get answers call
    by true there rest = absurd (cc (there))
    by false there rest = rest there

-- Everything is abandoned: the unanswered calls are answered.
pub abandons : (c : Vfs Opened) → AnsweredOnce c (abandoned c)
abandons c = record {
  numbers = omega arith;
  over = λ q low none. refl;
  same = λ q low none a at. sym (answers_left (answer.failed 103) c.calls c.answers q none) ∙ at;
}

-- ---- the kernel beside its calls

module _ (k : Kernel) where
  -- A call begins.
  pub call_begins : (call : Call) → AnsweredOnce k.vfs (call_begun k call).vfs
  call_begins call =
      let next = begun (is_aborted k.phase) k.vfs call in
      let asking = advanced k k.vfs.next_call next in
      subst (λ (d : Vfs Opened). AnsweredOnce k.vfs d)
      (sym (closing_vfs asking (cond (is_aborted k.phase) None
      (closed_by k.vfs.opens call)) ∙ advanced_vfs k k.vfs.next_call next))
      (begins k.vfs (is_aborted k.phase) call)

  -- A call is answered, and then its file released.
  used_after : (call : ℕ) (state : CallState Opened) → get k.vfs.calls call ≡ Some state → (q : Kernel)
      → ChangesCall k.vfs call q.vfs → AnsweredOnce k.vfs (after_use q state).vfs
  used_after call state there q alone = subst (λ (d : Vfs Opened). AnsweredOnce k.vfs d) (sym (used_vfs q state))
      (call_changes k.vfs call state there q.vfs alone)

  -- A signal reaches a call.
  pub call_signals : (call : ℕ) (state : CallState Opened) (fatal : Bool) → get k.vfs.calls call ≡ Some state
      → AnsweredOnce k.vfs (call_signalled k call state fatal).1.vfs
  call_signals call state fatal there = by (request_of k call)
    where
      effect : (unique : ℕ) (x : IntrEffect) → AnsweredOnce k.vfs
          (after_signal (record k { queues = after_interrupt k.queues unique fatal }) call state x).vfs
      effect unique Dequeued = used_after call state there
          (record k { queues = after_interrupt k.queues unique fatal; vfs = answered k.vfs call (answer.failed 4) })
          (answered_changes k.vfs call (answer.failed 4))
      effect unique Flagged = as_they_were k.vfs
      effect unique Queued = as_they_were k.vfs
      effect unique NoEffect = as_they_were k.vfs

      by : (o : Option ℕ) → AnsweredOnce k.vfs (signalled_at k call state fatal o).1.vfs
      by None = as_they_were k.vfs
      by (Some unique) = effect unique (interrupt_effect k.queues unique fatal)

  judged_changes : (q : QueueState Purpose) (call : ℕ) (state : CallState Opened) (wire : WireReply) (u : Use)
      → ChangesCall k.vfs call (judged (record k { queues = q }) call state wire u).vfs
  judged_changes q call state wire usable =
      let next = call_replied k.vfs call state (kernel_reply (asked state) wire) in
      subst (λ (d : Vfs Opened). ChangesCall k.vfs call d)
      (sym (advanced_vfs (record k { queues = q; nodes = looked_up k.nodes (files_in_reply wire) }) call next))
      (replied_changes k.vfs call state (kernel_reply (asked state) wire))
  judged_changes q call state wire unusable = answered_changes k.vfs call (answer.failed 5)
  judged_changes q call state wire (stale node) = answered_changes k.vfs call (answer.failed 5)

  -- A reply reaches a call.
  call_receives : (call : ℕ) (wire : WireReply) (o : Option (CallState Opened)) → get k.vfs.calls call ≡ o
      → AnsweredOnce k.vfs (replied_to_call k call wire o).1.vfs
  call_receives call wire None there = as_they_were k.vfs
  call_receives call wire (Some state) there = by (goes_with (asked state) wire)
    where
      by : (b : Bool) → AnsweredOnce k.vfs (replied k call state b wire).1.vfs
      by true = used_after call state there (reply_received k call state wire)
          (judged_changes (without_stale k wire).queues call state (reply_judged k.nodes wire)
          (use_of_reply k.nodes wire))
      by false = used_after call state there (record k { vfs = answered k.vfs call (answer.failed 5) })
          (answered_changes k.vfs call (answer.failed 5))

-- A reply is written.
pub reply_receives : (k : Kernel) (unique : ℕ) (wire : WireReply)
    → AnsweredOnce k.vfs (reply_written k unique wire).1.vfs
reply_receives k unique wire = by (nat_eq (unique % 2) 1)
  where
    ended : (q : Kernel) (kept : Purpose) → AnsweredOnce q.vfs (ended_by q kept wire).1.vfs
    ended q purpose.Init = agreed_or (is_agreement wire)
      where
        agreed_or : (b : Bool) → AnsweredOnce q.vfs (cond b (made_ready q wire) (kernel_aborted q)).vfs
        agreed_or true = as_they_were q.vfs
        agreed_or false = abandons q.vfs
    ended q (purpose.Release o) = as_they_were q.vfs
    ended q (purpose.Call call) = call_receives q call wire (get q.vfs.calls call) refl

    even : (o : Option Purpose) → AnsweredOnce k.vfs (request_reply_written k unique wire o).1.vfs
    even None = as_they_were k.vfs
    even (Some kept) = ended (record k { queues = without k.queues unique }) kept

    interrupts : (x : WireReply) → AnsweredOnce k.vfs (interrupt_replied k (unique - 1) x).1.vfs
    interrupts (failed errno) = as_they_were k.vfs
    interrupts done = as_they_were k.vfs
    interrupts x = as_they_were k.vfs

    odd : (o : Option Purpose) → AnsweredOnce k.vfs (interrupt_reply_written k unique wire o).1.vfs
    odd None = as_they_were k.vfs
    odd (Some kept) = interrupts wire

    by : (b : Bool) → AnsweredOnce k.vfs (cond b (interrupt_reply_written k unique wire
        (waiting k.queues (unique - 1))) (request_reply_written k unique wire (waiting k.queues unique))).1.vfs
    by true = odd (waiting k.queues (unique - 1))
    by false = even (waiting k.queues unique)
