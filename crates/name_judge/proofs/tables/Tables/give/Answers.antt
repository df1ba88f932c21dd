use Rattle.std.proofs.Common.{refl}
use Rattle.name_sessions.specs.NameActs.{Gives}
use Rattle.name_judge.specs.Kept.{name_of}
use Rattle.name_judge.proofs.GivenLaws.{gave}
use Rattle.name_judge.proofs.WaitLaws.{waiting_on}
use Rattle.name_judge.proofs.Results.{on_ok}
use Rattle.name_judge.proofs.tables.Tables.give.Goals as goal

pub returns : goal.returns
returns g c = on_ok _ _ c.give.result (λ is s are. record {
  waiting = waiting_on s c.args.self.now.rows.entries (Gives (name_of c.args.name)) (λ q. refl) are.waiting;
  given = gave s c.args.self.now.given.entries c.give.new.given.entries (name_of c.args.name) is are.given;
}) c.give.ensures
