-- What the kernel does at an event is one of what it does without its server.
use Rattle.std.proofs.Common.{◌≡◌, sym, subst}
use Rattle.fuse_spec.specs.Kernel.Kernel.{Kernel}
use Rattle.fk_syscalls.specs.Values.{call_of}
use Rattle.fk_drive.specs.KernelSteps.{ActsAlone, mounts, begins, is_signalled, ticks, drops_name, evicts, aborts}
use Rattle.fw_world.specs.declared.event.Event.{Event}
use Rattle.fw_world.specs.declared.event.Event.TheVariants as event
use Rattle.fw_world.specs.declared.event.Outcome.{Outcome}
use Rattle.fw_world.specs.declared.event.Outcome.TheVariants as outcome
use Rattle.fw_world.specs.Acts.{Acts}

to : (old new k : Kernel) → new ≡ k → ActsAlone old k → ActsAlone old new
to old new k same acts = subst (λ (n : Kernel). ActsAlone old n) (sym same) acts

pub acts_alone : (old : Kernel) (e : Event) (o : Outcome) (new : Kernel) → Acts old e o new → ActsAlone old new
acts_alone old (event.Mount found missing minor) outcome.Mounted new (may, same) = to old new _ same (mounts may)
acts_alone old (event.Call call) (outcome.Begun number) new (may, is, same) =
    to old new _ same (begins (call_of call) may)
acts_alone old (event.Interrupt call fatal) (outcome.Interrupted signalled effect) new (may, is, signals) =
    is_signalled call fatal effect new may signals
acts_alone old (event.Tick ms) (outcome.Now clock) new (may, is, same) = to old new _ same (ticks ms may)
acts_alone old (event.DropName directory name) outcome.Dropped new (may, same) =
    to old new _ same (drops_name directory name.now may)
acts_alone old (event.Evict node) (outcome.Evicted evicted_node count) new (may, is, (counted, there, counts, same)) =
    to old new _ same (evicts node counted may there)
acts_alone old event.Abort outcome.Aborted new (may, same) = to old new _ same (aborts may)
acts_alone old e o new acts = absurd acts
