use Rattle.fs_files.proofs.Giving.{counted_out_at, within_at, count_low}
use Rattle.fs_files.proofs.nodes.Nodes.is_counted_out.Goals as goal

pub overflow_sub-result : goal.overflow_sub-result
overflow_sub-result g c = count_low (g.S.NodeStore.table c.self.inside.store) c.in-Some.id c.count_of.result
    (rw (← c.self.view_is) at c.requires) c.count_of.ensures

pub returns-in-Some-clause-out : goal.returns-in-Some-clause-out
returns-in-Some-clause-out g c reached files times =
    rw (← c.self.view_is) (counted_out_at
    (g.S.NodeStore.table c.self.inside.store) files c.in-Some.id c.args.file c.in-Some.ensures.some c.count_of.result c.args.more c.count_of.ensures times reached)

pub returns-in-Some-clause-within : goal.returns-in-Some-clause-within
returns-in-Some-clause-within g c short files times =
    rw (← c.self.view_is)
    (within_at (g.S.NodeStore.table c.self.inside.store) files c.in-Some.id c.args.file c.in-Some.ensures.some c.count_of.result c.args.more c.count_of.ensures times c.lemma_sound.ensures (rw (← c.self.view_is) at c.requires) short)
