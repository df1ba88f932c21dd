-- What an event makes of the kernel, and why it is refused.
use Rattle.std.specs.Prelude.{◌≡◌, ◌⊎◌, ◌+◌, ℕ, List, Option, Some, None}
use Rattle.fuse_spec.specs.declared.Counted.{Counted}
use Rattle.fuse_spec.specs.declared.Refusal.{Refusal}
use Rattle.fuse_spec.specs.declared.WriteResult.{WriteResult}
use Rattle.fuse_spec.specs.declared.WriteResult.TheVariants.{NoEntry, Invalid}
use Rattle.fuse_spec.specs.Calls.Vfs.{later}
use Rattle.fuse_spec.specs.Kernel.Kernel.{Kernel, call_put, evicted, kernel_aborted, kernel_mounted}
use Rattle.fuse_spec.specs.Kernel.Refusals.{or_no_memory}
use Rattle.fuse_spec.specs.Values.Maps.{get, remove_name}
use Rattle.fk_syscalls.specs.Values.{call_of}
use Rattle.fk_kernel.specs.AwaitedReplies.{HasReplyHead, IsReplyWritten, awaited, head_unique, nothing}
use Rattle.fk_kernel.specs.Picks.{IsPicked, after_pick, pick_refusal}
use Rattle.fk_kernel.specs.Refused.{IsSignalled, WriteRefused, abort_refusal, begin_refusal, drop_refusal, evict_refusal, mount_refusal, signal_refusal, tick_refusal}
use Rattle.fk_kernel.specs.declared.step.KernelEvent.{KernelEvent}
use Rattle.fk_kernel.specs.declared.step.KernelEvent.TheVariants as event
use Rattle.fk_kernel.specs.declared.step.KernelStep.{KernelStep}
use Rattle.fk_kernel.specs.declared.step.KernelStep.TheVariants as step

-- Bytes are written as a reply. What has no reply's head, and what nothing awaits, changes nothing.
pub record TakesReply (old : Kernel) (bytes : List ℕ) (result : WriteResult) (new : Kernel) : Type 0 where
  pub headless : (HasReplyHead bytes → ⊥) → (result ≡ Invalid) × (new ≡ old)
  pub unawaited : HasReplyHead bytes → awaited old (head_unique bytes) ≡ nothing → (result ≡ NoEntry) × (new ≡ old)
  pub taken : HasReplyHead bytes
      → IsReplyWritten old (head_unique bytes) bytes (awaited old (head_unique bytes)) result new

-- An accepted event results in this step, and makes this of the kernel.
abbrev pub KernelDoes : {A : Type 0} → Kernel → KernelEvent → KernelStep A → Kernel → Type 0
KernelDoes old event.Mount step.Mounted new = (mount_refusal old ≡ None) × (new ≡ kernel_mounted old)
KernelDoes old (event.Call call) (step.Begun number) new =
    (begin_refusal old (call_of call) ≡ None) × (number ≡ old.vfs.next_call) × (new ≡ call_put old (call_of call))
KernelDoes old (event.Read pick) (step.Read frame) new =
    (pick_refusal old pick ≡ None) × IsPicked old pick frame
    × (new ≡ record old { queues = after_pick old.queues pick })
KernelDoes old (event.Write bytes) (step.Written result) new = TakesReply old bytes.now result new
KernelDoes old (event.Interrupt call fatal) (step.Interrupted signalled effect) new =
    (signal_refusal old call fatal ≡ None) × (signalled ≡ call) × IsSignalled old call fatal effect new
KernelDoes old (event.Tick ms) (step.Now clock) new =
    (tick_refusal old ms ≡ None) × (clock ≡ old.vfs.clock + ms) × (new ≡ record old { vfs = later old.vfs ms })
KernelDoes old (event.DropName directory name) step.Dropped new =
    (drop_refusal old directory name.now ≡ None) × (new ≡ record old {
      vfs = record old.vfs { names = remove_name old.vfs.names (directory, name.now) };
    })
KernelDoes old (event.Evict node) (step.Evicted evicted_node count) new =
    (evict_refusal old node ≡ None) × (evicted_node ≡ node) × ((counted : Counted)
    × (get old.nodes node ≡ Some counted) × (counted.count ≡ count) × (new ≡ evicted old node counted))
KernelDoes old event.Abort step.Aborted new = (abort_refusal old ≡ None) × (new ≡ kernel_aborted old)
KernelDoes old e s new = ⊥

-- Why an event is refused: as the definitions refuse it, or as out of memory, where it takes some.
abbrev pub KernelRefuses : Kernel → KernelEvent → Refusal → Type 0
KernelRefuses old event.Mount refusal = refusal ≡ or_no_memory (mount_refusal old)
KernelRefuses old (event.Call call) refusal = refusal ≡ or_no_memory (begin_refusal old (call_of call))
KernelRefuses old (event.Read pick) refusal = refusal ≡ or_no_memory (pick_refusal old pick)
KernelRefuses old (event.Write bytes) refusal = HasReplyHead bytes.now → WriteRefused old bytes.now refusal
KernelRefuses old (event.Interrupt call fatal) refusal = signal_refusal old call fatal ≡ Some refusal
KernelRefuses old (event.Tick ms) refusal = tick_refusal old ms ≡ Some refusal
KernelRefuses old (event.DropName directory name) refusal = drop_refusal old directory name.now ≡ Some refusal
KernelRefuses old (event.Evict node) refusal = evict_refusal old node ≡ Some refusal
KernelRefuses old event.Abort refusal = abort_refusal old ≡ Some refusal
