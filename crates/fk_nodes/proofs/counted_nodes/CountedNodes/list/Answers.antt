use Rattle.fk_nodes.proofs.counted_nodes.CountedNodes.list.Goals as goal

pub returns : goal.returns
returns g c = rw (← c.self.view_is) c.nodes.ensures
