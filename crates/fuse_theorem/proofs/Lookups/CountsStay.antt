-- As calls go on, the kernel counts the same nodes and has the same lookups to forget.
use Rattle.std.proofs.Common.{◌≡◌, ℕ, Bool, true, false, cond, Option, Some, None, refl, ◌∙◌}
use Rattle.std.specs.Option.{option_map_or}
use Rattle.std.specs.List.{list_any}
use Rattle.std.specs.Prelude.{nat_eq}
use Rattle.fuse_spec.specs.declared.IntrEffect.{IntrEffect}
use Rattle.fuse_spec.specs.declared.IntrEffect.TheVariants.{Dequeued, Flagged, Queued, None as NoEffect}
use Rattle.fuse_spec.specs.declared.InterruptReply.{InterruptReply}
use Rattle.fuse_spec.specs.declared.InterruptReplyEffect.{InterruptReplyEffect}
use Rattle.fuse_spec.specs.declared.InterruptReplyEffect.TheVariants.{QueuedAgain, TurnedOff, None as NoReplyEffect}
use Rattle.fuse_spec.specs.declared.Mark.{Mark}
use Rattle.fuse_spec.specs.declared.Mark.TheVariants as mark
use Rattle.fuse_spec.specs.declared.Opened.{Opened}
use Rattle.fuse_spec.specs.declared.Purpose.{Purpose}
use Rattle.fuse_spec.specs.declared.Purpose.TheVariants as purpose
use Rattle.fuse_spec.specs.declared.QueuedRequest.{QueuedRequest}
use Rattle.fuse_spec.specs.Calls.Answers as answer
use Rattle.fuse_spec.specs.Calls.Calls.{Call}
use Rattle.fuse_spec.specs.Values.Maps.{get, put}
use Rattle.fuse_spec.specs.Files.Operations.{Operation}
use Rattle.fuse_spec.specs.Calls.Vfs.{CallState, walking, doing, using, Advance, answered, begun}
use Rattle.fuse_spec.specs.Kernel.Queues.{QueueState, mark_under}
use Rattle.fuse_spec.specs.Kernel.QueueCalls.{after_enqueue, after_effect, after_reading, after_reply_effect, after_interrupt_reply, interrupt_effect}
use Rattle.fuse_spec.specs.Kernel.Signals.{reply_effect}
use Rattle.fuse_spec.specs.Kernel.Kernel.{Kernel, is_aborted, is_used, request_of, asking_for, advanced, released, released_if_idle, after_use, closed_by, closing_of, call_begun, after_signal, signalled_at, call_signalled}

pub record SameCounts (k l : Kernel) : Type 0 where
  pub nodes : l.nodes ≡ k.nodes
  pub forgets : l.queues.forgets ≡ k.queues.forgets

pub then_same : (k l m : Kernel) → SameCounts k l → SameCounts l m → SameCounts k m
then_same k l m a b = record { nodes = b.nodes ∙ a.nodes; forgets = b.forgets ∙ a.forgets }

pub advanced_same : (k : Kernel) (call : ℕ) (next : Advance Opened) → SameCounts k (advanced k call next)
advanced_same k call next = by next.operation
  where
    by : (o : Option (Operation ℕ Opened)) → SameCounts k (asking_for (record k { vfs = next.vfs }) call o)
    by None = record { nodes = refl; forgets = refl }
    by (Some operation) = record { nodes = refl; forgets = refl }

idle_same : (k : Kernel) (open_call : ℕ) → SameCounts k (released_if_idle k open_call)
idle_same k open_call = by (get k.closing open_call)
  where
    unless_used : (b : Bool) (o : Opened) → (cond b k.queues (after_enqueue k.queues (purpose.Release o))).forgets
        ≡ k.queues.forgets
    unless_used true o = refl
    unless_used false o = refl

    by : (o : Option Opened) → SameCounts k (released k open_call o)
    by None = record { nodes = refl; forgets = refl }
    by (Some o) = record { nodes = refl; forgets = unless_used (is_used k open_call) o }

pub used_same : (k : Kernel) (state : CallState Opened) → SameCounts k (after_use k state)
used_same k (walking d word words plan) = record { nodes = refl; forgets = refl }
used_same k (doing operation) = record { nodes = refl; forgets = refl }
used_same k (using open_call operation) = idle_same k open_call

-- A call begins.
pub begun_same : (k : Kernel) (call : Call) → SameCounts k (call_begun k call)
begun_same k call =
    let next = begun (is_aborted k.phase) k.vfs call in
    let asking = advanced k k.vfs.next_call next in
    then_same k asking (call_begun k call) (advanced_same k k.vfs.next_call next)
    (closes_one asking (cond (is_aborted k.phase) None (closed_by k.vfs.opens call)))
  where
    closes_one : (q : Kernel) (file : Option (ℕ × Opened)) → SameCounts q (closing_of q file)
    closes_one q None = record { nodes = refl; forgets = refl }
    closes_one q (Some file) = let idle = idle_same (record q { closing = put q.closing file.0 file.1 }) file.0 in
        record { nodes = idle.nodes; forgets = idle.forgets }

-- A signal reaches a call.
pub signalled_same : (k : Kernel) (call : ℕ) (state : CallState Opened) (fatal : Bool)
    → SameCounts k (call_signalled k call state fatal).1
signalled_same k call state fatal = by (request_of k call)
  where
    effect : (unique : ℕ) (x : IntrEffect) → SameCounts k
        (after_signal (record k { queues = after_effect k.queues unique x }) call state x)
    effect unique Dequeued =
        let idle = used_same (record k {
          queues = after_effect k.queues unique Dequeued;
          vfs = answered k.vfs call (answer.failed 4);
        }) state in
        record { nodes = idle.nodes; forgets = idle.forgets }
    effect unique Flagged = record { nodes = refl; forgets = refl }
    effect unique Queued = record { nodes = refl; forgets = refl }
    effect unique NoEffect = record { nodes = refl; forgets = refl }

    by : (o : Option ℕ) → SameCounts k (signalled_at k call state fatal o).1
    by None = record { nodes = refl; forgets = refl }
    by (Some unique) = effect unique (interrupt_effect k.queues unique fatal)

-- A pending request is read.
pub read_same : (q : QueueState Purpose) (o : Option (ℕ × QueuedRequest Purpose))
    → (option_map_or (λ e. after_reading q e.0 e.1.mark) o q).forgets ≡ q.forgets
read_same q None = refl
read_same q (Some e) = by e.0 e.1.mark
  where
    by : (unique : ℕ) (m : Mark) → (after_reading q unique m).forgets ≡ q.forgets
    by unique mark.Unread = refl
    by unique mark.Flagged = refl
    by unique mark.Read = refl
    by unique mark.Interrupted = refl

-- An INTERRUPT is replied to.
pub interrupt_reply_same : (q : QueueState Purpose) (original : ℕ) (reply : InterruptReply)
    → (after_interrupt_reply q original reply).forgets ≡ q.forgets
interrupt_reply_same q original reply = by (mark_under q original)
  where
    effect : (x : InterruptReplyEffect) → (after_reply_effect q original x).forgets ≡ q.forgets
    effect QueuedAgain = refl
    effect TurnedOff = refl
    effect NoReplyEffect = refl

    by : (o : Option Mark) → (option_map_or (λ m. after_reply_effect q original
        (reply_effect reply m (list_any (nat_eq original) q.interrupts) q.interrupts_off)) o q).forgets ≡ q.forgets
    by None = refl
    by (Some m) = effect (reply_effect reply m (list_any (nat_eq original) q.interrupts) q.interrupts_off)
