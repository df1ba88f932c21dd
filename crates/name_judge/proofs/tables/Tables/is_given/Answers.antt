use Rattle.std.proofs.Common.{◌∙◌}
use Rattle.name_judge.proofs.tables.Tables.is_given.Goals as goal

pub returns : goal.returns
returns g c = λ s are. c.is_given.ensures ∙ are.given (c.args.parent, c.args.bytes.now)
