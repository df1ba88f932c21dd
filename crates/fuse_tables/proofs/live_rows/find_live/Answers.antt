use Rattle.std.proofs.Common.{◌∙◌, sym, ap, is_some}
use Rattle.fuse_tables.proofs.Live.{get_live, held, value_at_row}
use Rattle.fuse_tables.proofs.Written.{not_some}
use Rattle.fuse_tables.proofs.live_rows.find_live.Goals as goal

pub returns-in_err-place : goal.returns-in_err-place
returns-in_err-place g c = rw (c.from_residual.ensures)
    (get_live c.args.rows.now.items c.args.key c.requires ∙ ap held c.in_err-place.ensures)

pub returns-then-is_some : goal.returns-then-is_some
returns-then-is_some g c =
    let value = value_at_row c.args.rows.now.items c.args.key c.in_ok-place.place c.index.result.now c.requires
    c.in_ok-place.ensures c.index.ensures in
    (c.in_ok-place.ensures, ap is_some (sym value) ∙ sym c.if-is_some.ensures)

pub returns-else-is_some : goal.returns-else-is_some
returns-else-is_some g c =
    let value = value_at_row c.args.rows.now.items c.args.key c.in_ok-place.place c.index.result.now c.requires
    c.in_ok-place.ensures c.index.ensures in
    sym value ∙ not_some _ (sym c.if-is_some.ensures)
