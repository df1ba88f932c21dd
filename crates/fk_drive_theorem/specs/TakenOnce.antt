-- Which replies a run without a mount takes no more.
use Rattle.std.specs.Prelude.{◌≡◌, ◌≢◌, ◌<◌, ℕ, ◌+◌, ◌-◌, ◌%◌, cond, List, None, nat_eq}
use Rattle.fuse_spec.specs.declared.WriteResult.{WriteResult}
use Rattle.fuse_spec.specs.declared.WriteResult.TheVariants.{NoEntry}
use Rattle.fuse_spec.specs.Kernel.Kernel.{Kernel}
use Rattle.fuse_spec.specs.Kernel.Queues.{request_under}
use Rattle.fuse_device.specs.Transfers.{Transfer}
use Rattle.fk_kernel.specs.AwaitedReplies.{HasReplyHead, head_unique}
use Rattle.fk_drive.specs.Driving.{Driven, DriveStep, Drives, alone, next, nothing}
use Rattle.fk_drive.specs.KernelSteps.{ActsAlone, IsReplyTaken, mounts}

-- The next three are how many mounts there are in what the kernel does without its server, in a step and in a run.
abbrev pub mounts_alone : {old new : Kernel} → ActsAlone old new → ℕ
mounts_alone (mounts may) = 1
mounts_alone acts = 0

abbrev pub mounts_at : {old : Driven} {log : List Transfer} {new : Driven} → DriveStep old log new → ℕ
mounts_at (alone new acts) = mounts_alone acts
mounts_at step = 0

abbrev pub mounts_in : {old : Driven} {log : List Transfer} {new : Driven} → Drives old log new → ℕ
mounts_in nothing = 0
mounts_in (next before mid run log new step) = mounts_in run + mounts_at step

-- The number of the request that a reply under this unique is for: an odd unique is that of the INTERRUPT of the
-- request before.
abbrev pub request_number : ℕ → ℕ
request_number unique = cond (nat_eq (unique % 2) 1) (unique - 1) unique

-- A reply to the request of this number, or to its INTERRUPT, is NoEntry and changes nothing.
abbrev pub TakesNone : ℕ → Kernel → Type 0
TakesNone number k = (bytes : List ℕ) → HasReplyHead bytes → request_number (head_unique bytes) ≡ number
    → (result : WriteResult) (after : Kernel) → IsReplyTaken k bytes result after → (result ≡ NoEntry) × (after ≡ k)

-- A number that was allocated and under which no request waits has none again, and no reply to it is taken.
pub record NoneAgain (old new : Kernel) : Type 0 where
  pub none_waits : (number : ℕ) → number < old.queues.next → request_under old.queues number ≡ None
      → request_under new.queues number ≡ None
  pub takes_none : (number : ℕ) → number < old.queues.next → request_under old.queues number ≡ None
      → TakesNone number new

-- A reply to the request of this number is taken: some request awaits it.
pub record TakesReplyTo (number : ℕ) (old new : Kernel) : Type 0 where
  pub bytes : List ℕ
  pub result : WriteResult
  pub head : HasReplyHead bytes
  pub under : head_unique bytes ≡ number
  pub no_interrupt : number % 2 ≡ 0
  pub taken : IsReplyTaken old bytes result new
  pub awaited : result ≢ NoEntry
