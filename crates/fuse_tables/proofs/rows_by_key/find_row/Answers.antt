use Rattle.std.proofs.Common.{arith}
use Rattle.fuse_tables.proofs.Rows.{row_at, none_above}
use Rattle.fuse_tables.proofs.rows_by_key.find_row.Goals as goal

pub returns-then-last-key : goal.returns-then-last-key
returns-then-last-key g c = row_at c.args.rows.now.items c.args.key _ c.index-last.result.now c.requires (omega arith)
    c.index-last.ensures c.if-last-key.true

pub returns-then-last-key-2 : goal.returns-then-last-key-2
returns-then-last-key-2 g c = none_above c.args.rows.now.items c.args.key _ c.index-last.result.now c.requires
    (omega arith) c.index-last.ensures c.if-last-key-2.true

pub returns-then-is_row_of : goal.returns-then-is_row_of
returns-then-is_row_of g c = c.is_row_of.ensures.there c.if-is_row_of.true
