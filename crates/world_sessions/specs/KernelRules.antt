-- The kernel of a world is driven over the device, and keeps the rules.
use Rattle.std.specs.Prelude.{◌≡◌, ◌≤◌, ◌+◌, ◌++◌, ℕ, false, List}
use Rattle.fuse_device.specs.Transfers.{Transfer}
use Rattle.fuse_spec.specs.Kernel.Kernel.{Kernel}
use Rattle.fuse_spec.specs.World.Worlds.{World}
use Rattle.fk_drive.specs.Driving.{Driven, Drives, first_driven, idle}
use Rattle.fk_drive_theorem.specs.TakenOnce.{mounts_in}
use Rattle.driven_sessions.specs.Counted.{IsPlainRun}
use Rattle.driven_sessions.specs.Rules.{KeepsRulesIn}
use Rattle.world_sessions.specs.WorldTransfers.{HasTransfers}

-- A kernel is driven over these transfers to this kernel, mounts so often, and keeps the rules. All that goes over the device is
-- its, and no request is on its way.
pub record IsDrivenTo (mounts : ℕ) (log : List Transfer) (kernel : Kernel) : Type 0 where
  pub new : Driven
  pub same : new.kernel ≡ kernel
  pub run : Drives (first_driven false) log new
  pub count : mounts_in run ≡ mounts
  pub plain : IsPlainRun run
  pub idles : new.turn ≡ idle
  pub rules : KeepsRulesIn run

-- In every run of the world, however its messages are spelled, but that no GETATTR names an open file.
abbrev pub KernelKeepsRules : Type 0
KernelKeepsRules = (mounts : ℕ) (log : List Transfer) (w : World) → HasTransfers mounts log w → IsDrivenTo mounts log w.kernel

-- The one world led to the other in a run with so many mounts at most: a session of the one, from the first world on, goes
-- on to the other as more goes over the device, and in the whole the kernel keeps the rules.
abbrev pub SessionGoesOn : (mounts : ℕ) → World → World → Type 0
SessionGoesOn mounts old new = (before : ℕ) (log : List Transfer) → HasTransfers before log old
    → (count : ℕ) × (count ≤ mounts) × (more : List Transfer) × HasTransfers (before + count) (log ++ more) new
    × IsDrivenTo (before + count) (log ++ more) new.kernel
