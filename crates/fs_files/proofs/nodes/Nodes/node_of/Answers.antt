use Rattle.fs_files.proofs.Giving.{node_of_either}
use Rattle.fs_files.proofs.nodes.Nodes.node_of.Goals as goal

pub returns : goal.returns
returns g c = rw (← c.self.view_is) (node_of_either
    (g.S.NodeStore.table c.self.inside.store) c.args.file c.lemma_sound.ensures c.id_of.result c.unwrap_or.result c.id_of.ensures.some c.id_of.ensures.none c.unwrap_or.ensures)
