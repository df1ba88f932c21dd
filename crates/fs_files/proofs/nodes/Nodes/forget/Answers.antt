use Rattle.fs_files.proofs.Lookups.{taken_or_not}
use Rattle.fs_files.proofs.nodes.Nodes.forget.Goals as goal

pub invariant_of-self : goal.invariant_of-self
invariant_of-self g c =
    taken_or_not (g.S.NodeStore.table c.self.inside.store) c.self.inside.most_lookups c.self.invariant c.take_back.result
    (g.S.NodeStore.table c.take_back.new.self) c.args.id c.args.count c.take_back.ensures.table c.take_back.ensures.refused
