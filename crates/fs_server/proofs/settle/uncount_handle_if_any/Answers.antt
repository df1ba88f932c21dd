use Rattle.fuse_spec.specs.Server.Nodes.{handle_back}
use Rattle.fs_server.proofs.DiscardsUnheld.{but_handle_back, discards_from, discards_none}
use Rattle.fs_server.proofs.settle.uncount_handle_if_any.Goals as goal

pub returns-in_default : goal.returns-in_default
returns-in_default g c = rw c.in_default.is (discards_none c.args.files.now c.requires)

pub discard_unheld-requires : goal.discard_unheld-requires
discard_unheld-requires g c =
    but_handle_back c.args.files.now c.uncount_handle.new.self c.requires c.uncount_handle.ensures.tree c.handle_file-file.result c.in-Some.fh c.handle_file-file.ensures c.uncount_handle.ensures.nodes c.uncount_handle.ensures.handles

pub returns : goal.returns
returns g c =
    let old = c.args.files.now in
    let discarded_unheld = c.discard_unheld.ensures in
    rw c.in-Some.is
    (discards_from old c.uncount_handle.new.self c.discard_unheld.new.self old.nodes
    (handle_back old.handles c.in-Some.fh) c.uncount_handle.ensures.tree c.uncount_handle.ensures.nodes c.uncount_handle.ensures.handles discarded_unheld.tree discarded_unheld.nodes
    discarded_unheld.handles discarded_unheld.named)
