use Rattle.std.proofs.Common.{rules}
use Rattle.fk_wire.proofs.bodies.rename_body.Goals as goal

pub returns-clause-ok : goal.returns-clause-ok
returns-clause-ok c = search rules
