use Rattle.fuse_spec.proofs.QueueReadings.{pending-enqueue, processing-enqueue}
use Rattle.fk_queues.proofs.laws.enqueue_appends.Goals as goal

pub returns : goal.returns
returns g c = record { pending = pending-enqueue; processing = processing-enqueue }
