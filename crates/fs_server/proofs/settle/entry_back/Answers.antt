use Rattle.fuse_spec.specs.Server.Copies.{row_back}
use Rattle.fs_server.proofs.DiscardsUnheld.{but_row_back, discards_from}
use Rattle.fs_server.proofs.settle.entry_back.Goals as goal

pub discard_unheld-requires : goal.discard_unheld-requires
discard_unheld-requires g c =
    but_row_back c.args.files.now c.uncount.new.self c.requires c.uncount.ensures.tree c.counted_file-file.result c.nodes.result.now.table c.args.entry.now c.nodes.ensures c.counted_file-file.ensures c.uncount.ensures.nodes c.uncount.ensures.handles

pub returns : goal.returns
returns g c =
    let old = c.args.files.now in
    let discarded_unheld = c.discard_unheld.ensures in
    discards_from old c.uncount.new.self c.discard_unheld.new.self
    (row_back old.nodes c.args.entry.now) old.handles c.uncount.ensures.tree c.uncount.ensures.nodes c.uncount.ensures.handles discarded_unheld.tree discarded_unheld.nodes discarded_unheld.handles discarded_unheld.named
