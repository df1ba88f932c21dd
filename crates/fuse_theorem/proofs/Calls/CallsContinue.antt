-- As calls go on, the mount stays as it stands, and the coming number never falls.
use Rattle.std.proofs.Common.{◌≡◌, ℕ, ◌≤◌, Bool, true, false, cond, Option, Some, None, refl, ◌∙◌, arith}
use Rattle.fuse_spec.specs.declared.IntrEffect.{IntrEffect}
use Rattle.fuse_spec.specs.declared.IntrEffect.TheVariants.{Dequeued, Flagged, Queued, None as NoEffect}
use Rattle.fuse_spec.specs.declared.Opened.{Opened}
use Rattle.fuse_spec.specs.declared.Purpose.TheVariants as purpose
use Rattle.fuse_spec.specs.Calls.Answers as answer
use Rattle.fuse_spec.specs.Calls.Calls.{Call}
use Rattle.fuse_spec.specs.Calls.CallReplies.{call_replied}
use Rattle.fuse_spec.specs.Values.Maps.{get, put}
use Rattle.fuse_spec.specs.Kernel.Messages.{WireReply}
use Rattle.fuse_spec.specs.Files.Operations.{Operation, files_in_reply}
use Rattle.fuse_spec.specs.Calls.Vfs.{CallState, walking, doing, using, asked, Advance, answered, begun}
use Rattle.fuse_spec.specs.Kernel.QueueCalls.{after_enqueue, after_effect, interrupt_effect}
use Rattle.fuse_spec.specs.Kernel.Kernel.{Kernel, is_aborted, is_used, request_of, asking_for, advanced, released, released_if_idle, after_use, closed_by, closing_of, call_begun, after_signal, signalled_at, call_signalled}
use Rattle.fuse_spec.specs.Kernel.Replies.{kernel_reply, looked_up, Use, usable, unusable, stale, goes_with, judged, replied, replied_to_call, reply_received, without_stale, reply_judged, use_of_reply}

pub record GoesOn (k l : Kernel) : Type 0 where
  pub phase : l.phase ≡ k.phase
  pub minor : l.minor ≡ k.minor
  pub lists_files : l.lists_files ≡ k.lists_files
  pub rises : k.queues.next ≤ l.queues.next

then_goes_on : (k l m : Kernel) → GoesOn k l → GoesOn l m → GoesOn k m
then_goes_on k l m a b =
    let low = a.rises in
    let more = b.rises in
    record {
      phase = b.phase ∙ a.phase;
      minor = b.minor ∙ a.minor;
      lists_files = b.lists_files ∙ a.lists_files;
      rises = omega (arith, low, more);
    }

advanced_goes_on : (k : Kernel) (call : ℕ) (next : Advance Opened) → GoesOn k (advanced k call next)
advanced_goes_on k call next = by next.operation
  where
    by : (o : Option (Operation ℕ Opened)) → GoesOn k (asking_for (record k { vfs = next.vfs }) call o)
    by None = record { phase = refl; minor = refl; lists_files = refl; rises = omega arith }
    by (Some operation) = record { phase = refl; minor = refl; lists_files = refl; rises = omega arith }

idle_goes_on : (k : Kernel) (open_call : ℕ) → GoesOn k (released_if_idle k open_call)
idle_goes_on k open_call = by (get k.closing open_call)
  where
    unless_used : (b : Bool) (o : Opened) → k.queues.next ≤
        (cond b k.queues (after_enqueue k.queues (purpose.Release o))).next
    unless_used true o = omega arith
    unless_used false o = omega arith

    by : (o : Option Opened) → GoesOn k (released k open_call o)
    by None = record { phase = refl; minor = refl; lists_files = refl; rises = omega arith }
    by (Some o) = record { phase = refl; minor = refl; lists_files = refl; rises = unless_used (is_used k open_call) o }

pub used_goes_on : (k : Kernel) (state : CallState Opened) → GoesOn k (after_use k state)
used_goes_on k (walking d word words plan) = record {
  phase = refl;
  minor = refl;
  lists_files = refl;
  rises = omega arith;
}
used_goes_on k (doing operation) = record { phase = refl; minor = refl; lists_files = refl; rises = omega arith }
used_goes_on k (using open_call operation) = idle_goes_on k open_call

-- A call begins.
pub begun_goes_on : (k : Kernel) (call : Call) → GoesOn k (call_begun k call)
begun_goes_on k call =
    let next = begun (is_aborted k.phase) k.vfs call in
    let asking = advanced k k.vfs.next_call next in
    then_goes_on k asking (call_begun k call) (advanced_goes_on k k.vfs.next_call next)
    (closes_one asking (cond (is_aborted k.phase) None (closed_by k.vfs.opens call)))
  where
    closes_one : (q : Kernel) (file : Option (ℕ × Opened)) → GoesOn q (closing_of q file)
    closes_one q None = record { phase = refl; minor = refl; lists_files = refl; rises = omega arith }
    closes_one q (Some file) = let idle = idle_goes_on (record q { closing = put q.closing file.0 file.1 }) file.0 in
        record { phase = idle.phase; minor = idle.minor; lists_files = idle.lists_files; rises = idle.rises }

-- A signal reaches a call.
pub signalled_goes_on : (k : Kernel) (call : ℕ) (state : CallState Opened) (fatal : Bool)
    → GoesOn k (call_signalled k call state fatal).1
signalled_goes_on k call state fatal = by (request_of k call)
  where
    effect : (unique : ℕ) (x : IntrEffect) → GoesOn k
        (after_signal (record k { queues = after_effect k.queues unique x }) call state x)
    effect unique Dequeued =
        let idle = used_goes_on (record k {
          queues = after_effect k.queues unique Dequeued;
          vfs = answered k.vfs call (answer.failed 4);
        }) state in
        record { phase = idle.phase; minor = idle.minor; lists_files = idle.lists_files; rises = idle.rises }
    effect unique Flagged = record { phase = refl; minor = refl; lists_files = refl; rises = omega arith }
    effect unique Queued = record { phase = refl; minor = refl; lists_files = refl; rises = omega arith }
    effect unique NoEffect = record { phase = refl; minor = refl; lists_files = refl; rises = omega arith }

    by : (o : Option ℕ) → GoesOn k (signalled_at k call state fatal o).1
    by None = record { phase = refl; minor = refl; lists_files = refl; rises = omega arith }
    by (Some unique) = effect unique (interrupt_effect k.queues unique fatal)

-- A reply reaches a call.
pub replied_goes_on : (k : Kernel) (call : ℕ) (wire : WireReply) (o : Option (CallState Opened))
    → GoesOn k (replied_to_call k call wire o).1
replied_goes_on k call wire None = record { phase = refl; minor = refl; lists_files = refl; rises = omega arith }
replied_goes_on k call wire (Some state) = by (goes_with (asked state) wire)
  where
    judged_goes_on : (x : WireReply) (u : Use) → GoesOn k (judged (without_stale k wire) call state x u)
    judged_goes_on x usable =
        let went = advanced_goes_on (record (without_stale k wire) { nodes = looked_up k.nodes (files_in_reply x) }) call
        (call_replied k.vfs call state (kernel_reply (asked state) x)) in
        record { phase = went.phase; minor = went.minor; lists_files = went.lists_files; rises = went.rises }
    judged_goes_on x unusable = record { phase = refl; minor = refl; lists_files = refl; rises = omega arith }
    judged_goes_on x (stale node) = record { phase = refl; minor = refl; lists_files = refl; rises = omega arith }

    by : (b : Bool) → GoesOn k (replied k call state b wire).1
    by true =
        then_goes_on k (reply_received k call state wire) (after_use (reply_received k call state wire) state)
        (judged_goes_on (reply_judged k.nodes wire) (use_of_reply k.nodes wire))
        (used_goes_on (reply_received k call state wire) state)
    by false = let went = used_goes_on (record k { vfs = answered k.vfs call (answer.failed 5) }) state in
        record { phase = went.phase; minor = went.minor; lists_files = went.lists_files; rises = went.rises }
