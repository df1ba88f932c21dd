use Rattle.std.proofs.Common.{refl}
use Rattle.fk_syscalls.specs.States.{HasCachedNames}
use Rattle.fk_kernel.proofs.kernel.KernelOf.start_walk.Goals as goal

pub returns-in-Err-clause-asks : goal.returns-in-Err-clause-asks
returns-in-Err-clause-asks g c =
    rw c.requires.not_aborted (rw (← c.self.view_is)
    (c.in-Err.ensures.out_of_memory _ (record { names = refl; clock = refl; root = refl }) refl))

pub returns-in-Ok-clause-begun : goal.returns-in-Ok-clause-begun
returns-in-Ok-clause-begun g c =
    let names : HasCachedNames c.args.self.now.vfs c.self.inside.names.names c.self.inside.clock = record {
      names = rw (← c.self.view_is) refl;
      clock = rw (← c.self.view_is) refl;
      root = rw (← c.self.view_is) refl;
    } in
    rw c.requires.not_aborted (c.in-Ok.ensures.begun c.args.self.now.vfs names (rw (← c.self.view_is) refl))
