use Rattle.std.proofs.Common.{rules}
use Rattle.fk_wire.proofs.shapes.one_name.Goals as goal

pub returns-clause-ok : goal.returns-clause-ok
returns-clause-ok c = search rules
