use Rattle.fuse_spec.proofs.QueueReadings.{pending-dequeue, processing-dequeue}
use Rattle.fk_queues.proofs.laws.dequeue_removes_one.Goals as goal

pub returns : goal.returns
returns g c = record { pending = pending-dequeue; processing = processing-dequeue }
