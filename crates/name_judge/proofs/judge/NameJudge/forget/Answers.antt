use Rattle.name_judge.proofs.JudgeLaws.{left_on}
use Rattle.name_judge.proofs.judge.NameJudge.forget.Goals as goal

pub returns : goal.returns
returns g c = λ s seen. left_on s c.args.self.now c.args.node c.leave.new.self (c.leave.ensures s) seen
