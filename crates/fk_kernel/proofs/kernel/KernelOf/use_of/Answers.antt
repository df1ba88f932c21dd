use Rattle.fk_kernel.proofs.kernel.KernelOf.use_of.Goals as goal

pub returns : goal.returns
returns g c = rw (← c.self.view_is) c.use_of.ensures
