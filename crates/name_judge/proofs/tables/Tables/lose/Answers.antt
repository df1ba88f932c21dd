use Rattle.std.proofs.Common.{refl}
use Rattle.name_sessions.specs.NameActs.{Loses}
use Rattle.name_judge.specs.Kept.{name_of}
use Rattle.name_judge.proofs.GivenLaws.{lost}
use Rattle.name_judge.proofs.WaitLaws.{waiting_on}
use Rattle.name_judge.proofs.tables.Tables.lose.Goals as goal

pub returns : goal.returns
returns g c = λ s are. record {
  waiting = waiting_on s c.args.self.now.rows.entries (Loses (name_of c.args.name.now)) (λ q. refl) are.waiting;
  given = lost s c.args.self.now.given.entries c.lose.new.given.entries (name_of c.args.name.now) c.lose.ensures are.given;
}
