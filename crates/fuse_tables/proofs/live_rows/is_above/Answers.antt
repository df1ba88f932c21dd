use Rattle.std.proofs.Common.{arith}
use Rattle.fuse_tables.proofs.Rows.{above_last}
use Rattle.fuse_tables.proofs.live_rows.is_above.Goals as goal

pub returns-else-len-eq0 : goal.returns-else-len-eq0
returns-else-len-eq0 g c = λ above. above_last c.args.rows.now.items c.args.key _ c.index.result.now c.requires
    (omega arith) c.index.ensures above
