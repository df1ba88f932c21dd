use Rattle.std.proofs.Common.{rules}
use Rattle.fk_wire.proofs.entry.is_timed.Goals as goal

pub returns : goal.returns
returns c = search rules
