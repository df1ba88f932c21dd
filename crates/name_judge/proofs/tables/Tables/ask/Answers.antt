use Rattle.std.proofs.Common.{refl}
use Rattle.name_sessions.specs.NameActs.{Asks}
use Rattle.name_judge.specs.Kept.{asked_of}
use Rattle.name_judge.proofs.GivenLaws.{given_on}
use Rattle.name_judge.proofs.Results.{on_ok}
use Rattle.name_judge.proofs.tables.Tables.ask.Goals as goal

pub returns : goal.returns
returns g c = on_ok _ _ c.ask.result (λ kept s are. record {
  waiting = kept s are.waiting;
  given = given_on s c.args.self.now.given.entries c.args.self.now.given.entries
      (Asks c.args.unique (asked_of c.args.asked)) (λ q. refl) are.given;
}) c.ask.ensures
