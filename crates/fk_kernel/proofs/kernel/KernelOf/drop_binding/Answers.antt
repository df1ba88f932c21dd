use Rattle.std.proofs.Common.{refl}
use Rattle.fk_kernel.proofs.Dropped.{nothing_dropped}
use Rattle.fk_kernel.proofs.kernel.KernelOf.drop_binding.Goals as goal

pub returns-then-not-remove-clause-err : goal.returns-then-not-remove-clause-err
returns-then-not-remove-clause-err g c =
    let names = c.self.inside.names.names in
    rw (
      ← c.self.view_is,
      c.remove.ensures.names,
      nothing_dropped names
          (c.args.directory, c.args.name.now) c.remove.result c.remove.ensures.bound c.if-not-remove.true,
    ) refl
