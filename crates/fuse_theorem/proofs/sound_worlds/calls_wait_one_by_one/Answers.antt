use Rattle.fuse_theorem.proofs.Answers.WaitingAnswers.{one_more_waits}
use Rattle.fuse_theorem.proofs.sound_worlds.calls_wait_one_by_one.Goals as goal

pub returns-clause-one_more : goal.returns-clause-one_more
returns-clause-one_more g = λ w e o after happens. one_more_waits w e o after happens

pub returns-clause-few : goal.returns-clause-few
returns-clause-few g = λ w here. here.few
