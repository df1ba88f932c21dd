use Rattle.std.proofs.Common.{arith}
use Rattle.fuse_tables.proofs.Rows.{row_at}
use Rattle.fuse_tables.proofs.rows_by_key.row_there.Goals as goal

pub returns-then-row-key : goal.returns-then-row-key
returns-then-row-key g c = (
  row_at c.args.rows.now.items c.args.key _ c.index-row.result.now c.requires
      (omega (arith, c.if-place-len.false)) c.index-row.ensures c.if-row-key.true,
  c.index-row.ensures,
)
