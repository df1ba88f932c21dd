-- The queues stay sound, whatever happens.
use Rattle.std.proofs.Common.{◌≡◌, ℕ, ◌+◌, ◌-◌, Bool, true, false, cond, Option, Some, None, Ok, nat_eq, slice_get}
use Rattle.std.specs.Prelude.{◌%◌}
use Rattle.fuse_spec.specs.declared.IntrEffect.{IntrEffect}
use Rattle.fuse_spec.specs.declared.IntrEffect.TheVariants.{Dequeued, Flagged, Queued, None as NoEffect}
use Rattle.fuse_spec.specs.declared.Opened.{Opened}
use Rattle.fuse_spec.specs.declared.Purpose.{Purpose}
use Rattle.fuse_spec.specs.declared.Purpose.TheVariants as purpose
use Rattle.fuse_spec.specs.Values.Maps.{get, put}
use Rattle.fuse_spec.specs.Calls.Answers.{Answer}
use Rattle.fuse_spec.specs.Calls.Answers as answer
use Rattle.fuse_spec.specs.Calls.Calls.{Call, for_minor}
use Rattle.fuse_spec.specs.Calls.CallReplies.{call_replied}
use Rattle.fuse_spec.specs.Kernel.Kernel.{Kernel, kernel_aborted, is_aborted, advanced, asking_for, released, released_if_idle, after_use, closed_by, closing_of, call_begun, after_signal, signalled_at, call_signalled, request_of}
use Rattle.fuse_spec.specs.Kernel.Messages.{WireReply}
use Rattle.fuse_spec.specs.Files.Operations.{Operation, done, failed, files_in_reply}
use Rattle.fuse_spec.specs.Kernel.QueueCalls.{waiting, without, after_interrupt, interrupt_effect}
use Rattle.fuse_spec.specs.Kernel.Replies.{kernel_reply, looked_up, Use, usable, unusable, stale, goes_with, is_agreement, judged, replied, replied_to_call, ended_by, request_reply_written, interrupt_reply_written, interrupt_replied, reply_written, reply_received, without_stale, reply_judged, use_of_reply, made_ready}
use Rattle.fuse_spec.specs.Calls.Vfs.{asked, CallState, walking, doing, using, Advance, answered, begun}
use Rattle.std.specs.List.{remove as without_at}
use Rattle.fuse_spec.specs.Kernel.QueueCalls.{pending_at, first_forgets}
use Rattle.fuse_spec.specs.Server.Taking.{taking}
use Rattle.fuse_spec.specs.Server.Performs.{served}
use Rattle.fuse_spec.specs.World.Worlds.{World, Sent, after_mount, after_call, world_after_read_interrupt, world_after_read_forgets, world_after_read_pending, after_take, after_perform, after_again, after_write, after_settle, after_tick, after_drop, after_evict, after_abort}
use Rattle.fuse_spec.specs.World.Worlds as worlds
use Rattle.fuse_spec.specs.World.Events.{Event, Outcome}
use Rattle.fuse_spec.specs.World.Steps.{step}
use Rattle.std.proofs.Common.{◌≤◌, ◌^◌, option_map, drop, take, arith, ap, refl}
use Rattle.std.specs.List.{list_any}
use Rattle.std.specs.Option.{option_map_or}
use Rattle.fuse_spec.specs.declared.InterruptReply.{InterruptReply}
use Rattle.fuse_spec.specs.declared.InterruptReply.TheVariants.{Again, NotSupported, Other}
use Rattle.fuse_spec.specs.declared.Mark.{Mark}
use Rattle.fuse_spec.specs.declared.Mark.TheVariants as mark
use Rattle.fuse_spec.specs.declared.QueuedRequest.{QueuedRequest}
use Rattle.fuse_spec.specs.Kernel.Kernel.{is_used}
use Rattle.fuse_spec.specs.Kernel.Queues.{QueueState, IsSound, pending, request_under, mark_under, empty_queues}
use Rattle.fuse_spec.specs.Kernel.QueueCalls.{after_enqueue, after_forget, after_effect, after_reading, after_interrupt_reply, after_reply_effect, with_mark}
use Rattle.fuse_spec.specs.Kernel.QueueCalls as queues
use Rattle.fuse_spec.specs.Kernel.Replies.{interrupt_reply_of}
use Rattle.fuse_spec.specs.Kernel.Signals.{signal_effect, reply_effect}
use Rattle.fuse_spec.proofs.QueueSoundness.{IsSound-enqueue, IsSound-mark, IsSound-interrupt, IsSound-without, IsSound-dequeue, IsSound-read_interrupt, IsSound-draw, IsSound-mark_interrupted, mark_under-pending, is_interrupted-marked, count_by-absent}
use Rattle.fuse_theorem.proofs.RefusalCases.Accepted.{next_within, after_next}
use Rattle.fuse_theorem.proofs.RefusalCases.Happened.{Happened, by_mount, by_call, by_read_interrupt, by_read_forgets, by_read_pending, by_take, by_perform, by_again, by_write, by_settle, by_signal, by_tick, by_drop, by_evict, by_abort, happened}
use Rattle.fuse_theorem.proofs.Requests.EmptyQueues.{empty_sound}

-- ---- the queues by themselves

-- Sound queues stay sound, where the coming number is not past its end; and it never falls.
record Grows (q r : QueueState Purpose) : Type 0 where
  rises : q.next ≤ r.next
  sound : r.next ≤ 2 ^ 62 → IsSound q → IsSound r

same_grows : (q : QueueState Purpose) → Grows q q
same_grows q = record { rises = omega arith; sound = λ high s. s }

then_grows : (q r t : QueueState Purpose) → Grows q r → Grows r t → Grows q t
then_grows q r t a b =
    let low = a.rises in
    let more = b.rises in
    record { rises = omega (arith, low, more); sound = λ high s. b.sound high (a.sound (omega (arith, more, high)) s) }

enqueue_grows : (q : QueueState Purpose) (kept : Purpose) → Grows q (after_enqueue q kept)
enqueue_grows q kept = record {
  rises = omega arith;
  sound = λ high s. IsSound-enqueue q kept s (after_next q.next s.next high);
}

forget_grows : (q : QueueState Purpose) (node count : ℕ) → Grows q (after_forget q node count)
forget_grows q node count = record {
  rises = omega arith;
  sound = λ high s. record { next = s.next; requests = s.requests; interrupts = s.interrupts };
}

without_grows : (q : QueueState Purpose) (unique : ℕ) → Grows q (without q unique)
without_grows q unique = record { rises = omega arith; sound = λ high s. IsSound-without q unique s }

signal_sound : (q : QueueState Purpose) (u : ℕ) (fatal : Bool) → IsSound q → IsSound (after_interrupt q u fatal)
signal_sound q u fatal s = by (request_under q u) refl
  where
    effect : (m : Mark) (f off : Bool) → mark_under q u ≡ Some m → IsSound (after_effect q u (signal_effect m f off))
    effect mark.Unread true off at = IsSound-dequeue q u mark.Unread s at refl
    effect mark.Flagged true off at = IsSound-dequeue q u mark.Flagged s at refl
    effect mark.Unread false false at = IsSound-mark q u mark.Unread mark.Flagged s at refl
    effect mark.Unread false true at = s
    effect mark.Flagged false off at = s
    effect mark.Read f false at = IsSound-mark_interrupted q u mark.Read s at refl
    effect mark.Read f true at = s
    effect mark.Interrupted f off at = s

    by : (o : Option (QueuedRequest Purpose)) → request_under q u ≡ o
        → IsSound (after_effect q u (option_map_or (λ r. signal_effect r.mark fatal q.interrupts_off) o NoEffect))
    by None at = s
    by (Some r) at = effect r.mark fatal q.interrupts_off
        (ap (λ (x : Option (QueuedRequest Purpose)). option_map (λ (y : QueuedRequest Purpose). y.mark) x) at)

reply_sound : (q : QueueState Purpose) (u : ℕ) (reply : InterruptReply) → IsSound q
    → IsSound (after_interrupt_reply q u reply)
reply_sound q u reply s = by (mark_under q u) refl
  where
    effect : (x : InterruptReply) (m : Mark) (queued off : Bool) → list_any (nat_eq u) q.interrupts ≡ queued
        → mark_under q u ≡ Some m → IsSound (after_reply_effect q u (reply_effect x m queued off))
    effect Again mark.Interrupted false false none at =
        IsSound-interrupt q u s (is_interrupted-marked q u mark.Interrupted at) (count_by-absent u q.interrupts none)
    effect Again mark.Interrupted false true none at = s
    effect Again mark.Interrupted true off none at = s
    effect Again mark.Read queued off none at = s
    effect Again mark.Unread queued off none at = s
    effect Again mark.Flagged queued off none at = s
    effect NotSupported m queued off none at = record {
      next = s.next;
      requests = s.requests;
      interrupts = λ v. omega arith;
    }
    effect Other m queued off none at = s

    by : (o : Option Mark) → mark_under q u ≡ o → IsSound
        (option_map_or (λ m. after_reply_effect q u (reply_effect reply m
        (list_any (nat_eq u) q.interrupts) q.interrupts_off)) o q)
    by None at = s
    by (Some m) at = effect reply m (list_any (nat_eq u) q.interrupts) q.interrupts_off refl at

reading_sound : (q : QueueState Purpose) (place : ℕ) → IsSound q → IsSound (queues.after_read_pending q place)
reading_sound q place s = by (slice_get (pending q) place) refl
  where
    read_as : (u : ℕ) (m : Mark) → mark_under q u ≡ Some m → IsSound (after_reading q u m)
    read_as u mark.Unread at = IsSound-mark q u mark.Unread mark.Read s at refl
    read_as u mark.Flagged at = IsSound-mark_interrupted q u mark.Flagged s at refl
    read_as u mark.Read at = s
    read_as u mark.Interrupted at = s

    by : (o : Option (ℕ × QueuedRequest Purpose)) → slice_get (pending q) place ≡ o
        → IsSound (option_map_or (λ e. after_reading q e.0 e.1.mark) o q)
    by None at = s
    by (Some e) at = read_as e.0 e.1.mark (mark_under-pending q place e s at)

-- ---- the kernel

advanced_grows : (k : Kernel) (call : ℕ) (next : Advance Opened) → Grows k.queues (advanced k call next).queues
advanced_grows k call next = by next.operation
  where
    by : (o : Option (Operation ℕ Opened)) → Grows k.queues (asking_for (record k { vfs = next.vfs }) call o).queues
    by None = same_grows k.queues
    by (Some operation) = enqueue_grows k.queues (purpose.Call call)

idle_grows : (k : Kernel) (open_call : ℕ) → Grows k.queues (released_if_idle k open_call).queues
idle_grows k open_call = by (get k.closing open_call)
  where
    unless_used : (b : Bool) (x : Opened) → Grows k.queues
        (cond b k.queues (after_enqueue k.queues (purpose.Release x)))
    unless_used true x = same_grows k.queues
    unless_used false x = enqueue_grows k.queues (purpose.Release x)

    by : (o : Option Opened) → Grows k.queues (released k open_call o).queues
    by None = same_grows k.queues
    by (Some x) = unless_used (is_used k open_call) x

used_grows : (k : Kernel) (state : CallState Opened) → Grows k.queues (after_use k state).queues
used_grows k (walking d word words plan) = same_grows k.queues
used_grows k (doing operation) = same_grows k.queues
used_grows k (using open_call operation) = idle_grows k open_call

begun_grows : (k : Kernel) (call : Call) → Grows k.queues (call_begun k call).queues
begun_grows k call =
    let next = begun (is_aborted k.phase) k.vfs call in
    then_grows k.queues (advanced k k.vfs.next_call next).queues (call_begun k call).queues
    (advanced_grows k k.vfs.next_call next) (closes_one (advanced k k.vfs.next_call next)
    (cond (is_aborted k.phase) None (closed_by k.vfs.opens call)))
  where
    closes_one : (q : Kernel) (file : Option (ℕ × Opened)) → Grows q.queues (closing_of q file).queues
    closes_one q None = same_grows q.queues
    closes_one q (Some file) = idle_grows (record q { closing = put q.closing file.0 file.1 }) file.0

signalled_sound : (k : Kernel) (call : ℕ) (state : CallState Opened) (fatal : Bool) → IsSound k.queues
    → (call_signalled k call state fatal).1.queues.next ≤ 2 ^ 62 → IsSound (call_signalled k call state fatal).1.queues
signalled_sound k call state fatal s = by (request_of k call)
  where
    effect : (q : Kernel) (x : IntrEffect) → IsSound q.queues → (after_signal q call state x).queues.next ≤ 2 ^ 62
        → IsSound (after_signal q call state x).queues
    effect q Dequeued sound high = let grows = used_grows
        (record q { vfs = answered q.vfs call (answer.failed 4) }) state in grows.sound high sound
    effect q Flagged sound high = sound
    effect q Queued sound high = sound
    effect q NoEffect sound high = sound

    by : (o : Option ℕ) → (signalled_at k call state fatal o).1.queues.next ≤ 2 ^ 62
        → IsSound (signalled_at k call state fatal o).1.queues
    by None high = s
    by (Some unique) high = effect (record k { queues = after_interrupt k.queues unique fatal })
        (interrupt_effect k.queues unique fatal) (signal_sound k.queues unique fatal s) high

replied_grows : (k : Kernel) (call : ℕ) (wire : WireReply) (o : Option (CallState Opened))
    → Grows k.queues (replied_to_call k call wire o).1.queues
replied_grows k call wire None = same_grows k.queues
replied_grows k call wire (Some state) = by (goes_with (asked state) wire)
  where
    stale_grows : Grows k.queues (without_stale k wire).queues
    stale_grows = record {
      rises = omega arith;
      sound =
          λ high s. record { next = s.next; requests = s.requests; interrupts = s.interrupts };
    }

    judged_grows : (x : WireReply) (u : Use) → Grows k.queues (judged (without_stale k wire) call state x u).queues
    judged_grows x usable = then_grows k.queues (without_stale k wire).queues _ stale_grows
        (advanced_grows (record (without_stale k wire) { nodes = looked_up k.nodes (files_in_reply x) }) call
        (call_replied k.vfs call state (kernel_reply (asked state) x)))
    judged_grows x unusable = stale_grows
    judged_grows x (stale node) = then_grows k.queues (without_stale k wire).queues _ stale_grows
        (forget_grows (without_stale k wire).queues node 1)

    by : (b : Bool) → Grows k.queues (replied k call state b wire).1.queues
    by true =
        then_grows k.queues (reply_received k call state wire).queues
        (after_use (reply_received k call state wire) state).queues
        (judged_grows (reply_judged k.nodes wire) (use_of_reply k.nodes wire))
        (used_grows (reply_received k call state wire) state)
    by false = used_grows (record k { vfs = answered k.vfs call (answer.failed 5) }) state

written_sound : (k : Kernel) (unique : ℕ) (wire : WireReply) → IsSound k.queues
    → (reply_written k unique wire).1.queues.next ≤ 2 ^ 62 → IsSound (reply_written k unique wire).1.queues
written_sound k unique wire s = by (nat_eq (unique % 2) 1)
  where
    ended : (q : Kernel) (kept : Purpose) → IsSound q.queues → (ended_by q kept wire).1.queues.next ≤ 2 ^ 62
        → IsSound (ended_by q kept wire).1.queues
    ended q purpose.Init sound = agreed_or (is_agreement wire)
      where
        agreed_or : (b : Bool) → (cond b (made_ready q wire) (kernel_aborted q)).queues.next ≤ 2 ^ 62
            → IsSound (cond b (made_ready q wire) (kernel_aborted q)).queues
        agreed_or true high = sound
        agreed_or false high = empty_sound
    ended q (purpose.Release o) sound = λ high. sound
    ended q (purpose.Call call) sound = λ high. let grows =
        replied_grows q call wire (get q.vfs.calls call) in grows.sound high sound

    even : (o : Option Purpose) → (request_reply_written k unique wire o).1.queues.next ≤ 2 ^ 62
        → IsSound (request_reply_written k unique wire o).1.queues
    even None high = s
    even (Some kept) high = ended (record k { queues = without k.queues unique }) kept
        (IsSound-without k.queues unique s) high

    interrupts : (x : WireReply) → IsSound (interrupt_replied k (unique - 1) x).1.queues
    interrupts (failed errno) = reply_sound k.queues (unique - 1) (interrupt_reply_of errno) s
    interrupts done = s
    interrupts x = s

    odd : (o : Option Purpose) → IsSound (interrupt_reply_written k unique wire o).1.queues
    odd None = s
    odd (Some kept) = interrupts wire

    by : (b : Bool) → (cond b (interrupt_reply_written k unique wire (waiting k.queues (unique - 1)))
        (request_reply_written k unique wire (waiting k.queues unique))).1.queues.next ≤ 2 ^ 62
        → IsSound (cond b (interrupt_reply_written k unique wire (waiting k.queues (unique - 1)))
        (request_reply_written k unique wire (waiting k.queues unique))).1.queues
    by true high = odd (waiting k.queues (unique - 1))
    by false high = even (waiting k.queues unique) high

-- ---- events

-- a reply that goes out leaves the queues as they are
sent_off : (w : World) (number unique : ℕ) (wire : Option WireReply) → IsSound w.kernel.queues
    → IsSound (worlds.copy_put w number unique wire).kernel.queues
sent_off w number unique None sound = sound
sent_off w number unique (Some wire) sound = sound

-- forgets are read under the coming number
forgets_sound : (q : QueueState Purpose) (n : ℕ) → IsSound q → (queues.after_read_forgets q n).next ≤ 2 ^ 62
    → IsSound (queues.after_read_forgets q n)
forgets_sound q n r = allocated (queues.can_read_forgets q n)
  where
    allocated : (b : Bool) → (cond b (record q { forgets = drop n q.forgets; next = q.next + 2 }) q).next ≤ 2 ^ 62
        → IsSound (cond b (record q { forgets = drop n q.forgets; next = q.next + 2 }) q)
    allocated true high = IsSound-draw q (drop n q.forgets) r (after_next q.next r.next high)
    allocated false high = r

by_event : (choice : ℕ → ℕ) (w : World) → IsSound w.kernel.queues → (e : Event) (o : Outcome) (after : World)
    → Happened choice w e o after → IsSound after.kernel.queues
by_event choice w r e o after (by_mount f m v idle) =
    IsSound-enqueue empty_queues purpose.Init empty_sound
    (record { even = refl; low = omega arith; high = omega arith })
by_event choice w r e o after (by_call call ready room within) = let grows =
    begun_grows w.kernel (for_minor w.kernel.lists_files call) in grows.sound (next_within (after_call w call) within) r
by_event choice w r e o after (by_read_interrupt original rest live there within) =
    IsSound-read_interrupt w.kernel.queues r
by_event choice w r e o after (by_read_forgets n live free can within few) =
    forgets_sound w.kernel.queues n r (next_within (world_after_read_forgets w n (take n w.kernel.queues.forgets)) within)
by_event choice w r e o after (by_read_pending k unique kept body live free there says within) =
    reading_sound w.kernel.queues k r
by_event choice w r e o after (by_take k q there within) =
    let took = taking w.server q.unique q.body in sent_off
    (record w { requests = without_at w.requests k; server = took.server }) w.server.next_copy q.unique took.reply r
by_event choice w r e o after (by_perform unique t there within) =
    let did = served choice w.server unique t in sent_off (record w { server = did.server }) w.server.next_copy unique
    (cond w.server.aborted None (Some did.wire)) r
by_event choice w r e o after (by_again unique kept there current within) = r
by_event choice w r e o after (by_write k sent there within) =
    written_sound w.kernel sent.unique sent.wire r (next_within
    (after_write w k sent (reply_written w.kernel sent.unique sent.wire)) within)
by_event choice w r e o after (by_settle k result there) = r
by_event choice w r e o after (by_signal call fatal state live there within) =
    signalled_sound w.kernel call state fatal r (next_within
    (record w { kernel = (call_signalled w.kernel call state fatal).1 }) within)
by_event choice w r e o after (by_tick ms timely) = r
by_event choice w r e o after (by_drop directory name bound live there) = r
by_event choice w r e o after (by_evict node counted live there unused) =
    record { next = r.next; requests = r.requests; interrupts = r.interrupts }
by_event choice w r e o after (by_abort live) = empty_sound

-- The queues stay sound, whatever the event.
pub stays_sound : (choice : ℕ → ℕ) (w : World) → IsSound w.kernel.queues → (o : Outcome) (last : World) (e : Event)
    → step choice w e ≡ Ok (o, last) → IsSound last.kernel.queues
stays_sound choice w r o last e stepped = by_event choice w r e o last (happened choice w o last e stepped)
