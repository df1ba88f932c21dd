-- What the kernel does moves its requests in few ways: one is queued, one ends, or one gets another mark.
use Rattle.std.proofs.Common.{◌≡◌, ℕ, ◌-◌, Bool, true, false, true≢false, cond, Option, Some, None, nat_eq, slice_get, option_map, refl, ap, sym, ◌∙◌}
use Rattle.std.specs.Prelude.{◌%◌}
use Rattle.std.specs.List.{list_any}
use Rattle.std.specs.Map.{remove_entry}
use Rattle.std.specs.Option.{option_map_or}
use Rattle.fuse_spec.specs.declared.IntrEffect.{IntrEffect}
use Rattle.fuse_spec.specs.declared.IntrEffect.TheVariants.{Dequeued, Flagged, Queued, None as NoEffect}
use Rattle.fuse_spec.specs.declared.InterruptReply.{InterruptReply}
use Rattle.fuse_spec.specs.declared.InterruptReplyEffect.{InterruptReplyEffect}
use Rattle.fuse_spec.specs.declared.InterruptReplyEffect.TheVariants.{QueuedAgain, TurnedOff, None as NoReplyEffect}
use Rattle.fuse_spec.specs.declared.Mark.{Mark}
use Rattle.fuse_spec.specs.declared.Mark.TheVariants as mark
use Rattle.fuse_spec.specs.declared.Opened.{Opened}
use Rattle.fuse_spec.specs.declared.Purpose.{Purpose}
use Rattle.fuse_spec.specs.declared.Purpose.TheVariants as purpose
use Rattle.fuse_spec.specs.declared.QueuedRequest.{QueuedRequest}
use Rattle.fuse_spec.specs.Calls.Answers as answer
use Rattle.fuse_spec.specs.Calls.Calls.{Call}
use Rattle.fuse_spec.specs.Calls.CallReplies.{call_replied}
use Rattle.fuse_spec.specs.Values.Maps.{get, put}
use Rattle.fuse_spec.specs.Kernel.Messages.{WireReply}
use Rattle.fuse_spec.specs.Files.Operations.{Operation, done, failed, files_in_reply}
use Rattle.fuse_spec.specs.Calls.Vfs.{CallState, walking, doing, using, asked, Advance, answered, begun}
use Rattle.fuse_spec.specs.Kernel.Queues.{QueueState, IsSound, is_unread, pending, request_under, mark_under}
use Rattle.fuse_spec.specs.Kernel.QueueCalls.{after_enqueue, after_forget, after_effect, after_reading, after_reply_effect, after_read_pending, set_mark, waiting, without}
use Rattle.fuse_spec.specs.Kernel.Signals.{signal_effect, reply_effect}
use Rattle.fuse_spec.specs.Kernel.Kernel.{Kernel, is_live, is_aborted, is_used, request_of, kernel_aborted, asking_for, advanced, released, released_if_idle, after_use, closed_by, closing_of, call_begun, after_signal, signalled_at, call_signalled}
use Rattle.fuse_spec.specs.Kernel.Replies.{kernel_reply, looked_up, Use, usable, unusable, stale, goes_with, is_agreement, judged, replied, replied_to_call, request_reply_written, interrupt_reply_written, interrupt_replied, interrupt_reply_of, reply_written, reply_received, without_stale, reply_judged, use_of_reply, made_ready}
use Rattle.fuse_spec.proofs.QueueSoundness.{mark_under-pending}

-- `May` says which mark a request may get in place of which.
pub data MovesBy (May : Mark → Mark → Type 0) : QueueState Purpose → QueueState Purpose → Type 0 where
  stays : (q r : QueueState Purpose) → r.requests ≡ q.requests → r.next ≡ q.next → MovesBy May q r
  queues : (q : QueueState Purpose) (kept : Purpose) → MovesBy May q (after_enqueue q kept)
  ends : (q r : QueueState Purpose) (unique : ℕ) → r.requests ≡ remove_entry (nat_eq unique) q.requests
      → r.next ≡ q.next → MovesBy May q r
  marks : (q r : QueueState Purpose) (unique : ℕ) (old m : Mark) → mark_under q unique ≡ Some old → May old m
      → r.requests ≡ set_mark unique q.requests m → r.next ≡ q.next → MovesBy May q r
  moves_on : (q r s : QueueState Purpose) → MovesBy May q r → MovesBy May r s → MovesBy May q s

-- No request is unread again.
abbrev pub QueueMoves : QueueState Purpose → QueueState Purpose → Type 0
QueueMoves = MovesBy (λ old m. is_unread m ≡ true → is_unread old ≡ true)

-- Nor is any read.
abbrev pub ReadsNone : QueueState Purpose → QueueState Purpose → Type 0
ReadsNone = MovesBy (λ old m. is_unread m ≡ is_unread old)

reading_none : (q r : QueueState Purpose) → ReadsNone q r → QueueMoves q r
reading_none q r (stays a b same next) = stays q r same next
reading_none q r (queues a kept) = queues q kept
reading_none q r (ends a b unique same next) = ends q r unique same next
reading_none q r (marks a b unique old m found kept same next) =
    marks q r unique old m found (λ unread. sym kept ∙ unread) same next
reading_none q r (moves_on a b c first rest) = moves_on q b r (reading_none q b first) (reading_none b r rest)

-- ---- requests are read

pub read_moves : (q : QueueState Purpose) → IsSound q → (place : ℕ) → QueueMoves q (after_read_pending q place)
read_moves q sound place = by (slice_get (pending q) place) refl
  where
    read_as : (unique : ℕ) (m : Mark) → mark_under q unique ≡ Some m → QueueMoves q (after_reading q unique m)
    read_as unique mark.Unread at = marks q (after_reading q unique mark.Unread) unique mark.Unread mark.Read at
        (λ e. refl) refl refl
    read_as unique mark.Flagged at =
        marks q (after_reading q unique mark.Flagged) unique mark.Flagged mark.Interrupted at (λ e. refl) refl refl
    read_as unique mark.Read at = stays q q refl refl
    read_as unique mark.Interrupted at = stays q q refl refl

    by : (o : Option (ℕ × QueuedRequest Purpose)) → slice_get (pending q) place ≡ o
        → QueueMoves q (option_map_or (λ e. after_reading q e.0 e.1.mark) o q)
    by None at = stays q q refl refl
    by (Some e) at = read_as e.0 e.1.mark (mark_under-pending q place e sound at)

-- ---- calls go on

advanced_moves : (k : Kernel) (call : ℕ) (next : Advance Opened) → ReadsNone k.queues (advanced k call next).queues
advanced_moves k call next = by next.operation
  where
    by : (o : Option (Operation ℕ Opened)) → ReadsNone k.queues (asking_for (record k { vfs = next.vfs }) call o).queues
    by None = stays k.queues k.queues refl refl
    by (Some operation) = queues k.queues (purpose.Call call)

idle_moves : (k : Kernel) (open_call : ℕ) → ReadsNone k.queues (released_if_idle k open_call).queues
idle_moves k open_call = by (get k.closing open_call)
  where
    unless_used : (b : Bool) (o : Opened) → ReadsNone k.queues
        (cond b k.queues (after_enqueue k.queues (purpose.Release o)))
    unless_used true o = stays k.queues k.queues refl refl
    unless_used false o = queues k.queues (purpose.Release o)

    by : (o : Option Opened) → ReadsNone k.queues (released k open_call o).queues
    by None = stays k.queues k.queues refl refl
    by (Some o) = unless_used (is_used k open_call) o

used_moves : (k : Kernel) (state : CallState Opened) → ReadsNone k.queues (after_use k state).queues
used_moves k (walking d word words plan) = stays k.queues k.queues refl refl
used_moves k (doing operation) = stays k.queues k.queues refl refl
used_moves k (using open_call operation) = idle_moves k open_call

-- A call begins.
pub begun_reads_none : (k : Kernel) (call : Call) → ReadsNone k.queues (call_begun k call).queues
begun_reads_none k call =
    let next = begun (is_aborted k.phase) k.vfs call in
    let asking = advanced k k.vfs.next_call next in
    moves_on k.queues asking.queues (call_begun k call).queues (advanced_moves k k.vfs.next_call next)
    (closes_one asking (cond (is_aborted k.phase) None (closed_by k.vfs.opens call)))
  where
    closes_one : (q : Kernel) (file : Option (ℕ × Opened)) → ReadsNone q.queues (closing_of q file).queues
    closes_one q None = stays q.queues q.queues refl refl
    closes_one q (Some file) = idle_moves (record q { closing = put q.closing file.0 file.1 }) file.0

-- A signal reaches a call.
pub signalled_reads_none : (k : Kernel) (call : ℕ) (state : CallState Opened) (fatal : Bool)
    → ReadsNone k.queues (call_signalled k call state fatal).1.queues
signalled_reads_none k call state fatal = by (request_of k call)
  where
    -- only an unread request is flagged, and only of a read one an INTERRUPT is queued
    flagged_was : (m : Mark) (f off : Bool) → signal_effect m f off ≡ Flagged → is_unread m ≡ true
    flagged_was mark.Unread f off e = refl
    flagged_was mark.Flagged f off e = refl
    flagged_was mark.Read f true e = absurd (cc)
    flagged_was mark.Read f false e = absurd (cc)
    flagged_was mark.Interrupted f off e = absurd (cc)

    queued_was : (m : Mark) (f off : Bool) → signal_effect m f off ≡ Queued → is_unread m ≡ false
    queued_was mark.Unread true off e = absurd (cc)
    queued_was mark.Unread false true e = absurd (cc)
    queued_was mark.Unread false false e = absurd (cc)
    queued_was mark.Flagged true off e = absurd (cc)
    queued_was mark.Flagged false off e = absurd (cc)
    queued_was mark.Read f off e = refl
    queued_was mark.Interrupted f off e = refl

    effect : (unique : ℕ) (r : QueuedRequest Purpose) → request_under k.queues unique ≡ Some r → (x : IntrEffect)
        → signal_effect r.mark fatal k.queues.interrupts_off ≡ x
        → ReadsNone k.queues (after_signal (record k { queues = after_effect k.queues unique x }) call state x).queues
    effect unique r under Dequeued is =
        let k1 = record k {
          queues = after_effect k.queues unique Dequeued;
          vfs = answered k.vfs call (answer.failed 4);
        } in
        moves_on k.queues k1.queues (after_use k1 state).queues (ends k.queues k1.queues unique refl refl)
        (used_moves k1 state)
    effect unique r under Flagged is = marks k.queues _ unique r.mark mark.Flagged
        (ap (λ (o : Option (QueuedRequest Purpose)). option_map (λ (x : QueuedRequest Purpose). x.mark) o) under)
        (sym (flagged_was r.mark fatal k.queues.interrupts_off is)) refl refl
    effect unique r under Queued is = marks k.queues _ unique r.mark mark.Interrupted
        (ap (λ (o : Option (QueuedRequest Purpose)). option_map (λ (x : QueuedRequest Purpose). x.mark) o) under)
        (sym (queued_was r.mark fatal k.queues.interrupts_off is)) refl refl
    effect unique r under NoEffect is = stays k.queues k.queues refl refl

    under_number : (unique : ℕ) (o : Option (QueuedRequest Purpose)) → request_under k.queues unique ≡ o
        → ReadsNone k.queues (after_signal (record k {
          queues =
              after_effect k.queues unique
              (option_map_or (λ r. signal_effect r.mark fatal k.queues.interrupts_off) o NoEffect);
        }) call state
        (option_map_or (λ r. signal_effect r.mark fatal k.queues.interrupts_off) o NoEffect)).queues
    under_number unique None under = stays k.queues k.queues refl refl
    under_number unique (Some r) under = effect unique r under (signal_effect r.mark fatal k.queues.interrupts_off) refl

    by : (o : Option ℕ) → ReadsNone k.queues (signalled_at k call state fatal o).1.queues
    by None = stays k.queues k.queues refl refl
    by (Some unique) = under_number unique (request_under k.queues unique) refl

-- ---- replies

pub replied_reads_none : (k : Kernel) (call : ℕ) (wire : WireReply) (o : Option (CallState Opened))
    → ReadsNone k.queues (replied_to_call k call wire o).1.queues
replied_reads_none k call wire None = stays k.queues k.queues refl refl
replied_reads_none k call wire (Some state) = by (goes_with (asked state) wire)
  where
    judged_moves : (x : WireReply) (u : Use) → ReadsNone k.queues (judged (without_stale k wire) call state x u).queues
    judged_moves x usable = moves_on k.queues (without_stale k wire).queues _
        (stays k.queues (without_stale k wire).queues refl refl)
        (advanced_moves (record (without_stale k wire) { nodes = looked_up k.nodes (files_in_reply x) }) call
        (call_replied k.vfs call state (kernel_reply (asked state) x)))
    judged_moves x unusable = stays k.queues (without_stale k wire).queues refl refl
    judged_moves x (stale node) = stays k.queues (after_forget (without_stale k wire).queues node 1) refl refl

    by : (b : Bool) → ReadsNone k.queues (replied k call state b wire).1.queues
    by true =
        let l = reply_received k call state wire in
        moves_on k.queues l.queues (after_use l state).queues
        (judged_moves (reply_judged k.nodes wire) (use_of_reply k.nodes wire)) (used_moves l state)
    by false = used_moves (record k { vfs = answered k.vfs call (answer.failed 5) }) state

-- A reply that leaves the mount live.
pub written_reads_none : (k : Kernel) (unique : ℕ) (wire : WireReply)
    → is_live (reply_written k unique wire).1.phase ≡ true → ReadsNone k.queues (reply_written k unique wire).1.queues
written_reads_none k unique wire = by (nat_eq (unique % 2) 1)
  where
    reply_effects : (original : ℕ) (x : InterruptReplyEffect)
        → ReadsNone k.queues (after_reply_effect k.queues original x)
    reply_effects original QueuedAgain = stays k.queues _ refl refl
    reply_effects original TurnedOff = stays k.queues _ refl refl
    reply_effects original NoReplyEffect = stays k.queues k.queues refl refl

    reply_moves : (original : ℕ) (reply : InterruptReply) (o : Option Mark)
        → ReadsNone k.queues (option_map_or (λ m. after_reply_effect k.queues original
        (reply_effect reply m (list_any (nat_eq original) k.queues.interrupts) k.queues.interrupts_off)) o k.queues)
    reply_moves original reply None = stays k.queues k.queues refl refl
    reply_moves original reply (Some m) = reply_effects original
        (reply_effect reply m (list_any (nat_eq original) k.queues.interrupts) k.queues.interrupts_off)

    interrupts : (x : WireReply) → ReadsNone k.queues (interrupt_replied k (unique - 1) x).1.queues
    interrupts (failed errno) = reply_moves (unique - 1) (interrupt_reply_of errno) (mark_under k.queues (unique - 1))
    interrupts done = stays k.queues k.queues refl refl
    interrupts x = stays k.queues k.queues refl refl

    odd : (o : Option Purpose) → ReadsNone k.queues (interrupt_reply_written k unique wire o).1.queues
    odd None = stays k.queues k.queues refl refl
    odd (Some kept) = interrupts wire

    init_moves : (b : Bool) → is_live (cond b (made_ready (record k { queues = without k.queues unique }) wire)
        (kernel_aborted (record k { queues = without k.queues unique }))).phase ≡ true
        → ReadsNone k.queues (cond b (made_ready (record k { queues = without k.queues unique }) wire)
        (kernel_aborted (record k { queues = without k.queues unique }))).queues
    init_moves true live = ends k.queues (without k.queues unique) unique refl refl
    init_moves false live = absurd (true≢false (sym live))

    even : (o : Option Purpose) → is_live (request_reply_written k unique wire o).1.phase ≡ true
        → ReadsNone k.queues (request_reply_written k unique wire o).1.queues
    even None live = stays k.queues k.queues refl refl
    even (Some purpose.Init) live = init_moves (is_agreement wire) live
    even (Some (purpose.Release o)) live = ends k.queues (without k.queues unique) unique refl refl
    even (Some (purpose.Call call)) live =
        let k1 = record k { queues = without k.queues unique } in
        moves_on k.queues k1.queues (replied_to_call k1 call wire (get k.vfs.calls call)).1.queues
        (ends k.queues k1.queues unique refl refl) (replied_reads_none k1 call wire (get k.vfs.calls call))

    by : (b : Bool) → is_live (cond b (interrupt_reply_written k unique wire (waiting k.queues (unique - 1)))
        (request_reply_written k unique wire (waiting k.queues unique))).1.phase ≡ true
        → ReadsNone k.queues (cond b (interrupt_reply_written k unique wire (waiting k.queues (unique - 1)))
        (request_reply_written k unique wire (waiting k.queues unique))).1.queues
    by true live = odd (waiting k.queues (unique - 1))
    by false live = even (waiting k.queues unique) live

-- ---- the same, where it need not be said that none is read

pub begun_moves : (k : Kernel) (call : Call) → QueueMoves k.queues (call_begun k call).queues
begun_moves k call = reading_none k.queues (call_begun k call).queues (begun_reads_none k call)

pub signalled_moves : (k : Kernel) (call : ℕ) (state : CallState Opened) (fatal : Bool)
    → QueueMoves k.queues (call_signalled k call state fatal).1.queues
signalled_moves k call state fatal = reading_none k.queues (call_signalled k call state fatal).1.queues
    (signalled_reads_none k call state fatal)

pub replied_moves : (k : Kernel) (call : ℕ) (wire : WireReply) (o : Option (CallState Opened))
    → QueueMoves k.queues (replied_to_call k call wire o).1.queues
replied_moves k call wire o = reading_none k.queues (replied_to_call k call wire o).1.queues
    (replied_reads_none k call wire o)

pub written_moves : (k : Kernel) (unique : ℕ) (wire : WireReply) → is_live (reply_written k unique wire).1.phase ≡ true
    → QueueMoves k.queues (reply_written k unique wire).1.queues
written_moves k unique wire live = reading_none k.queues (reply_written k unique wire).1.queues
    (written_reads_none k unique wire live)
