use Rattle.std.proofs.Common.{refl}
use Rattle.name_sessions.specs.NameActs.{Ends}
use Rattle.name_judge.proofs.GivenLaws.{given_on}
use Rattle.name_judge.proofs.tables.Tables.end.Goals as goal

pub returns-clause-was : goal.returns-clause-was
returns-clause-was g c = λ s are. c.end.ensures.was s are.waiting

pub returns-clause-right : goal.returns-clause-right
returns-clause-right g c = λ s are. record {
  waiting = c.end.ensures.kept s are.waiting;
  given = given_on s c.args.self.now.given.entries c.args.self.now.given.entries (Ends c.args.unique) (λ q. refl) are.given;
}
