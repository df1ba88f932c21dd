use Rattle.std.proofs.Common.{refl}
use Rattle.name_sessions.specs.NameActs.{Leaves}
use Rattle.name_judge.proofs.GivenLaws.{left}
use Rattle.name_judge.proofs.WaitLaws.{waiting_on}
use Rattle.name_judge.proofs.tables.Tables.leave.Goals as goal

pub returns : goal.returns
returns g c = λ s are. record {
  waiting = waiting_on s c.args.self.now.rows.entries (Leaves c.args.node) (λ q. refl) are.waiting;
  given = left s c.args.self.now.given.entries c.leave.new.given.entries c.args.node c.leave.ensures are.given;
}
