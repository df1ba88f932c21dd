-- What a line makes of a kernel by itself.
use Rattle.std.specs.Prelude.{ℕ, List, []}
use Rattle.fuse_spec.specs.declared.Refusal.{Refusal}
use Rattle.fuse_spec.specs.Kernel.Kernel.{Kernel}
use Rattle.fk_kernel.specs.declared.step.KernelEvent.{KernelEvent}
use Rattle.fk_kernel.specs.declared.step.KernelStep.{KernelStep}
use Rattle.fw_sides.specs.KernelLines.{SaysEvent}
use Rattle.fk_kernel.specs.KernelSteps.{KernelDoes, KernelRefuses}

-- the kernel once all answers are collected
abbrev pub all_collected : Kernel → Kernel
all_collected k = record k { vfs = record k.vfs { answers = [] } }

-- An event happens to the kernel, and the answers of calls are collected; or it is refused, and nothing changes.
pub data KernelHappens (A : Type 0) (old : Kernel) (event : KernelEvent) : Kernel → Type 0 where
  accepted : (step : KernelStep A) (new : Kernel) → KernelDoes old event step new
      → KernelHappens A old event (all_collected new)
  refused : (refusal : Refusal) → KernelRefuses old event refusal → KernelHappens A old event old

-- A line is done: the event happens that it says; or nothing changes, where it says none (it asks for the nodes, is
-- passed over or is at fault), or where memory runs out for its bytes.
pub data DoesKernelLine (A : Type 0) (old : Kernel) (text : List ℕ) : Kernel → Type 0 where
  event : (event : KernelEvent) → SaysEvent text event → (new : Kernel) → KernelHappens A old event new
      → DoesKernelLine A old text new
  nothing : DoesKernelLine A old text old
