use Rattle.fk_kernel.proofs.kernel.KernelOf.lemma_served.Goals as goal

pub returns : goal.returns
returns g c = record { served = rw (← c.self.view_is) c.self.invariant.served }
