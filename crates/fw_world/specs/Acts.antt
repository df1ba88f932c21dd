-- What the kernel does at an event that needs no server, and why it refuses one.
use Rattle.std.specs.Prelude.{◌≡◌}
use Rattle.fuse_spec.specs.declared.Refusal.{Refusal}
use Rattle.fuse_spec.specs.declared.Refusal.TheVariants.{NoSuch}
use Rattle.fuse_spec.specs.Kernel.Kernel.{Kernel}
use Rattle.fk_kernel.specs.KernelSteps.{KernelDoes, KernelRefuses}
use Rattle.fk_kernel.specs.declared.step.KernelEvent.TheVariants as kernel
use Rattle.fk_kernel.specs.declared.step.KernelStep.TheVariants as step
use Rattle.fw_world.specs.declared.event.Event.{Event}
use Rattle.fw_world.specs.declared.event.Event.TheVariants as event
use Rattle.fw_world.specs.declared.event.Outcome.{Outcome}
use Rattle.fw_world.specs.declared.event.Outcome.TheVariants as outcome

-- An accepted event results in this outcome, and makes this of the kernel.
abbrev pub Acts : Kernel → Event → Outcome → Kernel → Type 0
Acts old (event.Mount found missing minor) outcome.Mounted new = KernelDoes {A = Unit {0}} old kernel.Mount step.Mounted new
Acts old (event.Call call) (outcome.Begun number) new =
    KernelDoes {A = Unit {0}} old (kernel.Call call) (step.Begun number) new
Acts old (event.Interrupt call fatal) (outcome.Interrupted signalled effect) new =
    KernelDoes {A = Unit {0}} old (kernel.Interrupt call fatal) (step.Interrupted signalled effect) new
Acts old (event.Tick ms) (outcome.Now clock) new = KernelDoes {A = Unit {0}} old (kernel.Tick ms) (step.Now clock) new
Acts old (event.DropName directory name) outcome.Dropped new =
    KernelDoes {A = Unit {0}} old (kernel.DropName directory name) step.Dropped new
Acts old (event.Evict node) (outcome.Evicted evicted count) new =
    KernelDoes {A = Unit {0}} old (kernel.Evict node) (step.Evicted evicted count) new
Acts old event.Abort outcome.Aborted new = KernelDoes {A = Unit {0}} old kernel.Abort step.Aborted new
Acts old e o new = ⊥

-- It is refused for this.
abbrev pub ActRefuses : Kernel → Event → Refusal → Type 0
ActRefuses old (event.Mount found missing minor) refusal = KernelRefuses old kernel.Mount refusal
ActRefuses old (event.Call call) refusal = KernelRefuses old (kernel.Call call) refusal
ActRefuses old (event.Interrupt call fatal) refusal = KernelRefuses old (kernel.Interrupt call fatal) refusal
ActRefuses old (event.Tick ms) refusal = KernelRefuses old (kernel.Tick ms) refusal
ActRefuses old (event.DropName directory name) refusal = KernelRefuses old (kernel.DropName directory name) refusal
ActRefuses old (event.Evict node) refusal = KernelRefuses old (kernel.Evict node) refusal
ActRefuses old event.Abort refusal = KernelRefuses old kernel.Abort refusal
ActRefuses old other refusal = refusal ≡ NoSuch

-- The event is the kernel's alone: neither the server nor a link is in it.
abbrev pub IsAlone : Event → Type 0
IsAlone (event.Call call) = Unit {0}
IsAlone (event.Interrupt call fatal) = Unit {0}
IsAlone (event.Tick ms) = Unit {0}
IsAlone (event.DropName directory name) = Unit {0}
IsAlone (event.Evict node) = Unit {0}
IsAlone other = ⊥
