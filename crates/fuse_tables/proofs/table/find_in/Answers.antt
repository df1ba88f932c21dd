use Rattle.std.proofs.Common.{arith}
use Rattle.fuse_tables.proofs.Rows.{row_at}
use Rattle.fuse_tables.proofs.table.find_in.Goals as goal

pub returns-then-last-key : goal.returns-then-last-key
returns-then-last-key g c = row_at c.args.rows.now c.args.key _ c.index-rows-len.result c.requires (omega arith)
    c.index-rows-len.is c.if-last-key.true
