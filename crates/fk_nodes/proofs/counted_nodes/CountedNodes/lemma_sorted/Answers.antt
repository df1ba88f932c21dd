use Rattle.fk_nodes.proofs.counted_nodes.CountedNodes.lemma_sorted.Goals as goal

pub returns : goal.returns
returns g c = rw (← c.self.view_is) c.lemma_sound.ensures.sorted
