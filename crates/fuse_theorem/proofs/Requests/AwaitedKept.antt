-- As a reply is written, each request but that which it answers stays what it is.
use Rattle.std.proofs.Common.{◌≡◌, ℕ, ◌-◌, ◌<◌, Bool, true, false, true≢false, cond, Option, Some, None, ◌⊎◌, nat_eq, refl, ap, sym, subst, ◌∙◌, arith, inl, inr}
use Rattle.std.specs.Prelude.{◌%◌}
use Rattle.std.specs.List.{list_any}
use Rattle.std.specs.Option.{option_map_or}
use Rattle.std.proofs.lemmas.Bool.{cases_eq}
use Rattle.fuse_spec.specs.declared.InterruptReply.{InterruptReply}
use Rattle.fuse_spec.specs.declared.InterruptReplyEffect.{InterruptReplyEffect}
use Rattle.fuse_spec.specs.declared.InterruptReplyEffect.TheVariants.{QueuedAgain, TurnedOff, None as NoReplyEffect}
use Rattle.fuse_spec.specs.declared.Mark.{Mark}
use Rattle.fuse_spec.specs.declared.Opened.{Opened}
use Rattle.fuse_spec.specs.declared.Purpose.{Purpose}
use Rattle.fuse_spec.specs.declared.Purpose.TheVariants as purpose
use Rattle.fuse_spec.specs.declared.QueuedRequest.{QueuedRequest}
use Rattle.fuse_spec.specs.Calls.Answers as answer
use Rattle.fuse_spec.specs.Calls.CallReplies.{call_replied}
use Rattle.fuse_spec.specs.Values.Maps.{get}
use Rattle.fuse_spec.specs.Kernel.Messages.{WireReply}
use Rattle.fuse_spec.specs.Files.Operations.{done, failed, files_in_reply}
use Rattle.fuse_spec.specs.Calls.Vfs.{CallState, asked, answered}
use Rattle.fuse_spec.specs.Kernel.Queues.{IsSound, is_unread, request_under, mark_under}
use Rattle.fuse_spec.specs.Kernel.QueueCalls.{after_reply_effect, waiting, without}
use Rattle.fuse_spec.specs.Kernel.Signals.{reply_effect}
use Rattle.fuse_spec.specs.Kernel.Kernel.{Kernel, is_live, is_for, kernel_aborted, after_use}
use Rattle.fuse_spec.specs.Kernel.Replies.{kernel_reply, looked_up, Use, usable, unusable, stale, goes_with, is_agreement, judged, replied, replied_to_call, ended_by, request_reply_written, interrupt_reply_written, interrupt_replied, interrupt_reply_of, reply_written, reply_received, without_stale, reply_judged, use_of_reply, made_ready}
use Rattle.fuse_spec.proofs.QueueReadings.{request_under-without, request_under-without_other}
use Rattle.fuse_theorem.specs.Numbering.{requests_for}
use Rattle.fuse_theorem.specs.AskedRequests.{SignalsReachCalls, InitIsFirst}
use Rattle.fuse_theorem.proofs.Calls.Advancing.{call_replied_alone}
use Rattle.fuse_theorem.proofs.Answers.Answered.{Waits, waiting_is}
use Rattle.fuse_theorem.proofs.Calls.CallNumbers.{none_left}
use Rattle.fuse_theorem.proofs.Calls.Finding.{same_is, other_is, All-removed}
use Rattle.fuse_theorem.proofs.Replies.KeptOnLink.{stays_absent}
use Rattle.fuse_theorem.proofs.Requests.Numbered.{CallsNumbered}
use Rattle.fuse_theorem.proofs.Requests.QueueMoves.{replied_moves}
use Rattle.fuse_theorem.proofs.Requests.AskKept.{StillThere, Follows, ReachesCall, IsNumberedFor, asks_same, then_follows, unmoved, advanced_follows, answered_follows, used_follows}

-- Each request that was read is there still, or it is the one under this number, which ends.
pub record Answers (k l : Kernel) (ended : ℕ) : Type 0 where
  pub still : (unique : ℕ) (r : QueuedRequest Purpose) → request_under k.queues unique ≡ Some r
      → is_unread r.mark ≡ false → StillThere k l unique r ⊎ ((unique ≡ ended) × (request_under l.queues unique ≡ None))
  pub signals : SignalsReachCalls k.queues → SignalsReachCalls l.queues
  pub first : InitIsFirst k.queues → InitIsFirst l.queues

none_ends : (k l : Kernel) (ended : ℕ) → Follows k l → Answers k l ended
none_ends k l ended follows = record {
  still = λ u r under read. inl (follows.still u r under read);
  signals = follows.signals;
  first = follows.first;
}

-- ---- a call receives a reply

replied_follows : (k : Kernel) (call : ℕ) (wire : WireReply) (o : Option (CallState Opened))
    → requests_for call k.queues ≡ 0 → Follows k (replied_to_call k call wire o).1
replied_follows k call wire None none = unmoved k k refl refl (omega arith)
replied_follows k call wire (Some state) none = by (goes_with (asked state) wire)
  where
    stale_follows : Follows k (without_stale k wire)
    stale_follows = unmoved k (without_stale k wire) refl refl (omega arith)

    judged_follows : (x : WireReply) (u : Use) → Follows k (judged (without_stale k wire) call state x u)
    judged_follows x usable =
        let k1 = record (without_stale k wire) { nodes = looked_up k.nodes (files_in_reply x) } in
        let next = call_replied k.vfs call state (kernel_reply (asked state) x) in
        then_follows k k1 (judged (without_stale k wire) call state x usable) (unmoved k k1 refl refl (omega arith))
        (advanced_follows k1 call k.vfs.next_call next none
        (call_replied_alone k.vfs call state (kernel_reply (asked state) x)))
    judged_follows x unusable = then_follows k (without_stale k wire) _ stale_follows
        (answered_follows (without_stale k wire) call (answer.failed 5) none)
    judged_follows x (stale node) =
        let k1 = record (without_stale k wire) { vfs = answered k.vfs call (answer.failed 5) } in
        then_follows k k1 (judged (without_stale k wire) call state x (stale node))
        (then_follows k (without_stale k wire) k1 stale_follows
        (answered_follows (without_stale k wire) call (answer.failed 5) none))
        (unmoved k1 (judged (without_stale k wire) call state x (stale node)) refl refl (omega arith))

    by : (b : Bool) → Follows k (replied k call state b wire).1
    by true =
        let l = reply_received k call state wire in
        then_follows k l (after_use l state) (judged_follows (reply_judged k.nodes wire) (use_of_reply k.nodes wire))
        (used_follows l state)
    by false =
        let l = record k { vfs = answered k.vfs call (answer.failed 5) } in
        then_follows k l (after_use l state) (answered_follows k call (answer.failed 5) none) (used_follows l state)

-- ---- the request ends

module _ (k : Kernel) (sound : IsSound k.queues) (numbered : CallsNumbered k) (unique : ℕ)
    (low : unique < k.queues.next) (wire : WireReply) where
  abbrev left : Kernel
  left = record k { queues = without k.queues unique }

  -- all is as without the request, and it does not come again
  ends : (l : Kernel) → Follows left l → request_under l.queues unique ≡ None → Answers k l unique
  ends l follows absent = record {
    still = λ u r under read. elim (cases_eq u unique) [
      | inl e ↦ inr (e, ap (request_under l.queues) e ∙ absent)
      | inr ne ↦
          let x = follows.still u r (request_under-without_other k.queues u unique
          (other_is u unique ne) ∙ under) read in
          inl (record {
            now = x.now;
            under = x.under;
            same_kept = x.same_kept;
            read = x.read;
            marked = x.marked;
            asks = x.asks ∙ asks_same k left r.kept refl;
          })
    ];
    signals = λ h. follows.signals (All-removed ReachesCall unique k.queues.requests h);
    first = λ h. follows.first (record {
      next = h.next;
      entries = All-removed IsNumberedFor unique k.queues.requests h.entries;
    });
  }

  ended_answers : (kept : Purpose) → Waits k.queues unique kept → is_live (ended_by left kept wire).1.phase ≡ true
      → Answers k (ended_by left kept wire).1 unique
  ended_answers purpose.Init waits live = by (is_agreement wire) live
    where
      by : (b : Bool) → is_live (cond b (made_ready left wire) (kernel_aborted left)).phase ≡ true
          → Answers k (cond b (made_ready left wire) (kernel_aborted left)) unique
      by true alive = ends (made_ready left wire) (unmoved left (made_ready left wire) refl refl (omega arith))
          (request_under-without k.queues unique sound)
      by false alive = absurd (true≢false (sym alive))
  ended_answers (purpose.Release o) waits live = ends left (unmoved left left refl refl (omega arith))
      (request_under-without k.queues unique sound)
  ended_answers (purpose.Call call) waits live =
      let mine : is_for call waits.request.kept ≡ true =
      subst (λ (x : Purpose). is_for call x ≡ true) (sym waits.serves) (same_is call) in
      let l = (replied_to_call left call wire (get k.vfs.calls call)).1 in
      ends l (replied_follows left call wire (get k.vfs.calls call)
      (none_left k numbered call unique waits.request waits.under mine))
      (stays_absent left.queues l.queues (replied_moves left call wire (get k.vfs.calls call)) unique low
      (request_under-without k.queues unique sound))

-- ---- replies

-- A reply that leaves the mount live.
pub written_answers : (k : Kernel) → IsSound k.queues → CallsNumbered k → (unique : ℕ) → unique < k.queues.next
    → (wire : WireReply) → is_live (reply_written k unique wire).1.phase ≡ true
    → Answers k (reply_written k unique wire).1 unique
written_answers k sound numbered unique low wire live = by (nat_eq (unique % 2) 1) live
  where
    effects : (original : ℕ) (x : InterruptReplyEffect)
        → Follows k (record k { queues = after_reply_effect k.queues original x })
    effects original QueuedAgain = unmoved k (record k {
      queues =
          after_reply_effect k.queues original QueuedAgain;
    }) refl refl (omega arith)
    effects original TurnedOff = unmoved k (record k {
      queues =
          after_reply_effect k.queues original TurnedOff;
    }) refl refl (omega arith)
    effects original NoReplyEffect = unmoved k k refl refl (omega arith)

    replies : (original : ℕ) (reply : InterruptReply) (o : Option Mark)
        → Follows k (record k {
          queues = option_map_or (λ m. after_reply_effect k.queues original
              (reply_effect reply m (list_any (nat_eq original) k.queues.interrupts) k.queues.interrupts_off)) o k.queues;
        })
    replies original reply None = unmoved k k refl refl (omega arith)
    replies original reply (Some m) = effects original
        (reply_effect reply m (list_any (nat_eq original) k.queues.interrupts) k.queues.interrupts_off)

    interrupts : (x : WireReply) → Follows k (interrupt_replied k (unique - 1) x).1
    interrupts (failed errno) = replies (unique - 1) (interrupt_reply_of errno) (mark_under k.queues (unique - 1))
    interrupts done = unmoved k k refl refl (omega arith)
    interrupts x = unmoved k k refl refl (omega arith)

    odd : (o : Option Purpose) → Answers k (interrupt_reply_written k unique wire o).1 unique
    odd None = none_ends k k unique (unmoved k k refl refl (omega arith))
    odd (Some kept) = none_ends k (interrupt_replied k (unique - 1) wire).1 unique (interrupts wire)

    even : (o : Option Purpose) → waiting k.queues unique ≡ o
        → is_live (request_reply_written k unique wire o).1.phase ≡ true
        → Answers k (request_reply_written k unique wire o).1 unique
    even None waits alive = none_ends k k unique (unmoved k k refl refl (omega arith))
    even (Some kept) waits alive = ended_answers k sound numbered unique low wire kept
        (waiting_is k.queues unique kept waits) alive

    by : (b : Bool) → is_live (cond b (interrupt_reply_written k unique wire (waiting k.queues (unique - 1)))
        (request_reply_written k unique wire (waiting k.queues unique))).1.phase ≡ true
        → Answers k (cond b (interrupt_reply_written k unique wire (waiting k.queues (unique - 1)))
        (request_reply_written k unique wire (waiting k.queues unique))).1 unique
    by true alive = odd (waiting k.queues (unique - 1))
    by false alive = even (waiting k.queues unique) refl alive
