use Rattle.fk_nodes.proofs.Outs.{none_out}
use Rattle.fk_kernel.proofs.kernel.KernelOf.lemma_counts_in_range.Goals as goal

pub returns-clause-sorted : goal.returns-clause-sorted
returns-clause-sorted g c = rw (← c.self.view_is) c.lemma_sorted.ensures

pub returns-clause-below : goal.returns-clause-below
returns-clause-below g c = rw (← c.self.view_is) c.self.invariant.nodes.below

pub returns-clause-none_out : goal.returns-clause-none_out
returns-clause-none_out g c = rw (← c.self.view_is)
    (none_out c.self.inside.nodes c.lemma_sorted.ensures c.self.invariant.nodes.below)
