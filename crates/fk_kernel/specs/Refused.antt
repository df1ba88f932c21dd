-- Which refusal each call of the kernel gets: that of the definitions, then that of a counter which would pass its end.
-- Out of memory comes last. And what each results in where it has none.
use Rattle.std.specs.Prelude.{◌≡◌, ℕ, List, Bool, true, Option, Some, Result, ◌∷◌}
use Rattle.fuse_spec.specs.Calls.Calls.{Call, for_minor}
use Rattle.fuse_spec.specs.Kernel.Kernel.{Kernel, body_of, call_begun, call_signalled, forgets_read}
use Rattle.fuse_spec.specs.Kernel.Refusals.{unless, refusal_in, accepted, is_kernel_past_end, is_kernel_past, when_live, to_mount, to_call, to_pass, to_read_interrupt, to_read_forgets, to_read_pending, to_signal, to_drop, to_evict}
use Rattle.fk_wire.specs.declared.opcode.Opcode.{Opcode}
use Rattle.fuse_spec.specs.Kernel.Messages.{Request, WireReply, interrupt, Forget}
use Rattle.fuse_spec.specs.Kernel.Replies.{reply_written}
use Rattle.fk_kernel.specs.AwaitedReplies.{Awaited, reply_to, awaited, HasReplyHead, head_unique, IsJudged, ReadsReply}
use Rattle.fuse_spec.specs.Kernel.QueueCalls.{pending_at, after_read_forgets}
use Rattle.fuse_spec.specs.declared.Purpose.{Purpose}
use Rattle.fuse_spec.specs.declared.Refusal.{Refusal}
use Rattle.fuse_spec.specs.declared.Refusal.TheVariants.{NoMemory, Exhausted}
use Rattle.fuse_spec.specs.Values.Maps.{get}
use Rattle.fuse_spec.specs.Kernel.Uniques.{interrupt_number}
use Rattle.fuse_spec.specs.Calls.Vfs.{CallState}
use Rattle.fuse_spec.specs.declared.IntrEffect.{IntrEffect}
use Rattle.fuse_spec.specs.declared.Opened.{Opened}
use Rattle.fuse_spec.specs.Calls.Paths.{Name}
use Rattle.fuse_spec.specs.World.Worlds.{forget_body}

-- nothing more refuses it but a counter that would have given a number past its end
abbrev pub within_counters : Kernel → Result (Unit {0}) Refusal
within_counters after = unless (is_kernel_past_end after) Exhausted accepted

abbrev pub mount_refusal : Kernel → Option Refusal
mount_refusal k = refusal_in (to_mount k accepted)

-- of a call that begins as it is put
abbrev pub begun_refusal : Kernel → Call → Option Refusal
begun_refusal k call = refusal_in (to_call k (within_counters (call_begun k call)))

abbrev pub begin_refusal : Kernel → Call → Option Refusal
begin_refusal k call = begun_refusal k (for_minor k.lists_files call)

-- of a read of the pending request at a place
abbrev pub read_refusal : Kernel → ℕ → Option Refusal
read_refusal k place = refusal_in (to_read_pending k place (λ unique body. accepted))

-- of a read of this many forgets as one frame
abbrev pub read_forgets_refusal : Kernel → ℕ → Option Refusal
read_forgets_refusal k count = refusal_in (to_read_forgets k count
    (λ read. within_counters (record k { queues = after_read_forgets k.queues count })))

-- of a read of the oldest INTERRUPT
abbrev pub read_interrupt_refusal : Kernel → Option Refusal
read_interrupt_refusal k = refusal_in (to_read_interrupt k (λ original. accepted))

-- of a signal; no number may be left for the RELEASE of a file that the call used last
abbrev pub signal_refusal : Kernel → ℕ → Bool → Option Refusal
signal_refusal k call fatal =
    refusal_in (to_signal k call (λ state. within_counters (call_signalled k call state fatal).1))

-- of a clock that goes on this many milliseconds
abbrev pub tick_refusal : Kernel → ℕ → Option Refusal
tick_refusal k ms = refusal_in (to_pass k ms accepted)

-- of a name that is dropped
abbrev pub drop_refusal : Kernel → ℕ → Name → Option Refusal
drop_refusal k directory name = refusal_in (to_drop k directory name (λ bound. accepted))

-- of a node that is evicted
abbrev pub evict_refusal : Kernel → ℕ → Option Refusal
evict_refusal k node = refusal_in (to_evict k node (λ counted. accepted))

abbrev pub abort_refusal : Kernel → Option Refusal
abort_refusal k = refusal_in (when_live k accepted)

-- the request that is pending at a place, and what it asks
pub record IsPendingRequest (k : Kernel) (place : ℕ) (request : Request) : Type 0 where
  pub purpose : Purpose
  pub pending : pending_at k.queues place ≡ Some (request.unique, purpose)
  pub body : body_of k purpose ≡ Some request.body

-- What the bytes say to what awaits them would have queued a request for which no number is left, or brought a node's
-- count to the end of counters.
pub record PassesEnd (k : Kernel) (unique : ℕ) (bytes : List ℕ) (awaiting : Awaited) : Type 0 where
  pub opcode : Opcode
  pub judged : IsJudged opcode
  pub awaits : awaiting ≡ reply_to opcode
  pub past : (wire : WireReply) → ReadsReply opcode bytes wire → is_kernel_past (reply_written k unique wire).1 ≡ true

-- Why bytes under a unique are refused, by what awaits a reply under it. Out of memory comes last.
pub data IsWriteRefusal (k : Kernel) (unique : ℕ) (bytes : List ℕ) (awaiting : Awaited) : Refusal → Type 0 where
  no_memory : (PassesEnd k unique bytes awaiting → ⊥) → IsWriteRefusal k unique bytes awaiting NoMemory
  exhausted : PassesEnd k unique bytes awaiting → IsWriteRefusal k unique bytes awaiting Exhausted

-- Why bytes are refused: out of memory, out of numbers, or a count that would end.
abbrev pub WriteRefused : Kernel → List ℕ → Refusal → Type 0
WriteRefused k bytes = IsWriteRefusal k (head_unique bytes) bytes (awaited k (head_unique bytes))

-- What the bytes say would have queued a request for which no number is left, or brought a node's count to the end of
-- counters.
abbrev pub WritePasses : Kernel → List ℕ → Type 0
WritePasses k bytes = HasReplyHead bytes × PassesEnd k (head_unique bytes) bytes (awaited k (head_unique bytes))

-- The call is unanswered, and the signal to it has this effect and leads to that kernel.
pub record IsSignalled (k : Kernel) (call : ℕ) (fatal : Bool) (effect : IntrEffect) (after : Kernel) : Type 0 where
  pub state : CallState Opened
  pub unanswered : get k.vfs.calls call ≡ Some state
  pub signalled : call_signalled k call state fatal ≡ (effect, after)

-- The frame of the oldest INTERRUPT, under the number of its request with the lowest bit set.
pub record IsInterruptFrame (k : Kernel) (frame : Request) : Type 0 where
  pub original : ℕ
  pub rest : List ℕ
  pub first : k.queues.interrupts ≡ original ∷ rest
  pub is : frame ≡ record { unique = interrupt_number original; body = interrupt original }

-- The frame of this many of the first forgets, under the coming number.
pub record IsForgetFrame (k : Kernel) (count : ℕ) (frame : Request) : Type 0 where
  pub forgets : List Forget
  pub first : forgets_read k count ≡ Some (frame.unique, forgets)
  pub is : frame ≡ record { unique = k.queues.next; body = forget_body forgets }
