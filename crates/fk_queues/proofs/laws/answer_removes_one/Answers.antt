use Rattle.fuse_spec.proofs.QueueReadings.{pending-answer, processing-answer}
use Rattle.fk_queues.proofs.laws.answer_removes_one.Goals as goal

pub returns : goal.returns
returns g c = record { pending = pending-answer; processing = processing-answer }
