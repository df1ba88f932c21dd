use Rattle.fuse_tables.proofs.Rows.{row_there, none_past, none_other}
use Rattle.fuse_tables.proofs.table.search_in.Goals as goal

pub returns-then-place-rows : goal.returns-then-place-rows
returns-then-place-rows g c =
    none_past c.args.rows.now c.args.key c.place_in-place.result c.requires c.place_in-place.ensures.place c.if-place-rows.true

pub returns-then-row-key : goal.returns-then-row-key
returns-then-row-key g c =
    row_there c.args.rows.now c.args.key c.place_in-place.result c.index-rows-place.result c.place_in-place.ensures.place c.place_in-place.ensures.bound c.if-place-rows.false c.index-rows-place.is
    c.if-row-key.true

pub returns-else-row-key : goal.returns-else-row-key
returns-else-row-key g c =
    none_other c.args.rows.now c.args.key c.place_in-place.result c.index-rows-place.result c.requires c.place_in-place.ensures.place c.place_in-place.ensures.bound c.if-place-rows.false
    c.index-rows-place.is c.if-row-key.false
