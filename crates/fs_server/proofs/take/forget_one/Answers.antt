use Rattle.fuse_spec.specs.Server.Nodes.{taken_back}
use Rattle.fs_server.proofs.DiscardsUnheld.{but_less, discards_from}
use Rattle.fs_server.proofs.take.forget_one.Goals as goal

pub discard_unheld-requires : goal.discard_unheld-requires
discard_unheld-requires g c =
    but_less c.args.files.now c.forget.new.self c.requires.named c.forget.ensures.tree c.counted_file-file.result c.nodes.result.now.table c.args.nodeid c.args.nlookup c.nodes.ensures c.counted_file-file.ensures c.forget.ensures.nodes
    c.forget.ensures.handles

pub returns : goal.returns
returns g c =
    let old = c.args.files.now in
    let discarded_unheld = c.discard_unheld.ensures in
    discards_from old c.forget.new.self c.discard_unheld.new.self
    (taken_back old.nodes c.args.nodeid c.args.nlookup) old.handles c.forget.ensures.tree c.forget.ensures.nodes c.forget.ensures.handles discarded_unheld.tree discarded_unheld.nodes discarded_unheld.handles
    discarded_unheld.named
