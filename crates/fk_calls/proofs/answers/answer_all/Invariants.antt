use Rattle.std.proofs.Common.{length}
use Rattle.fk_calls.proofs.Answered.{AnsweredBehind}
use Rattle.fk_calls.proofs.answers.answer_all.Given as goal

abbrev pub invariant-loop-left : goal.invariant-loop-left
invariant-loop-left g l = AnsweredBehind l.calls l.left l.initial.answers l.answers

abbrev pub decreases-loop-left : goal.decreases-loop-left
decreases-loop-left g l = length l.left
