use Rattle.std.proofs.Common.{◌∙◌, refl, ap, sym, arith}
use Rattle.fuse_tables.proofs.Rows.{row_at, none_above}
use Rattle.fuse_tables.proofs.Live.{held, get_live, value_at_row}
use Rattle.fuse_tables.proofs.live_rows.value_in.Goals as goal

pub returns-in-Some : goal.returns-in-Some
returns-in-Some g c =
    c.as_ref.ensures.value ∙ value_at_row c.args.rows.now.items c.args.key _ c.in-Some.row.now c.requires
    c.in-Some.ensures.0 c.in-Some.ensures.1

pub returns-then-last-key : goal.returns-then-last-key
returns-then-last-key g c =
    let rows = c.args.rows.now.items in
    let row = c.in-Some-back.last.now in
    let some = c.in-Some-back.ensures.variant.0 refl in
    let there = row_at rows c.args.key _ row c.requires (omega (arith, some)) c.in-Some-back.ensures.lookup
    c.if-last-key.true in
    c.as_ref-then-last-key.ensures.value ∙ value_at_row rows c.args.key _ row c.requires there c.in-Some-back.ensures.lookup

pub returns-then-last-key-2 : goal.returns-then-last-key-2
returns-then-last-key-2 g c =
    let rows = c.args.rows.now.items in
    let some = c.in-Some-back.ensures.variant.0 refl in
    sym (get_live rows c.args.key c.requires ∙ ap held (none_above rows c.args.key _ c.in-Some-back.last.now c.requires
    (omega (arith, some)) c.in-Some-back.ensures.lookup c.if-last-key-2.true))
