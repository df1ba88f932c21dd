use Rattle.fk_kernel.proofs.kernel.KernelOf.nodes.Goals as goal

pub returns : goal.returns
returns g c = rw (← c.self.view_is) c.list.ensures
