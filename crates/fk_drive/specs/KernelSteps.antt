-- What the kernel makes of bytes that are written to it, and what it does without its server.
use Rattle.std.specs.Prelude.{◌≡◌, ℕ, Bool, false, List, Some, None}
use Rattle.fuse_spec.specs.declared.Counted.{Counted}
use Rattle.fuse_spec.specs.declared.IntrEffect.{IntrEffect}
use Rattle.fuse_spec.specs.declared.WriteResult.{WriteResult}
use Rattle.fuse_spec.specs.declared.WriteResult.TheVariants.{NoEntry, Invalid}
use Rattle.fuse_spec.specs.Calls.Calls.{Call}
use Rattle.fuse_spec.specs.Calls.Paths.{Name}
use Rattle.fuse_spec.specs.Calls.Vfs.{later}
use Rattle.fuse_spec.specs.Kernel.Kernel.{Kernel, call_put, evicted, kernel_aborted, kernel_mounted}
use Rattle.fuse_spec.specs.Kernel.Refusals.{is_kernel_past_end}
use Rattle.fuse_spec.specs.Values.Maps.{get, remove, remove_name}
use Rattle.fk_kernel.specs.AwaitedReplies.{HasReplyHead, IsReplyWritten, awaited, head_unique, nothing}
use Rattle.fk_kernel.specs.Refused.{IsSignalled, abort_refusal, begin_refusal, drop_refusal, evict_refusal, mount_refusal, signal_refusal, tick_refusal}

-- Bytes are written as a reply. What has no reply's head, and what nothing awaits, changes nothing.
pub record IsReplyTaken (old : Kernel) (bytes : List ℕ) (result : WriteResult) (new : Kernel) : Type 0 where
  pub headless : (HasReplyHead bytes → ⊥) → (result ≡ Invalid) × (new ≡ old)
  pub unawaited : HasReplyHead bytes → awaited old (head_unique bytes) ≡ nothing → (result ≡ NoEntry) × (new ≡ old)
  pub taken : HasReplyHead bytes
      → IsReplyWritten old (head_unique bytes) bytes (awaited old (head_unique bytes)) result new
  -- no counter is past its end
  pub within : is_kernel_past_end new ≡ false

-- What happens to the kernel without its server, each as the kernel's definitions have it.
pub data ActsAlone (old : Kernel) : Kernel → Type 0 where
  mounts : mount_refusal old ≡ None → ActsAlone old (kernel_mounted old)
  begins : (call : Call) → begin_refusal old call ≡ None → ActsAlone old (call_put old call)
  is_signalled : (call : ℕ) (fatal : Bool) (effect : IntrEffect) (new : Kernel) → signal_refusal old call fatal ≡ None
      → IsSignalled old call fatal effect new → ActsAlone old new
  ticks : (ms : ℕ) → tick_refusal old ms ≡ None → ActsAlone old (record old { vfs = later old.vfs ms })
  drops_name : (directory : ℕ) (name : Name) → drop_refusal old directory name ≡ None → ActsAlone old (record old {
    vfs = record old.vfs { names = remove_name old.vfs.names (directory, name) };
  })
  evicts : (node : ℕ) (counted : Counted) → evict_refusal old node ≡ None → get old.nodes node ≡ Some counted
      → ActsAlone old (evicted old node counted)
  aborts : abort_refusal old ≡ None → ActsAlone old (kernel_aborted old)
  gives_answer : (call : ℕ) → ActsAlone old (record old {
    vfs = record old.vfs { answers = remove old.vfs.answers call };
  })
