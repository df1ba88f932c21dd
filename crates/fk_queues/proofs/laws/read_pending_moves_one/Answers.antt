use Rattle.fuse_spec.proofs.QueueReadings.{pending-read_pending, processing-read_pending}
use Rattle.fk_queues.proofs.laws.read_pending_moves_one.Goals as goal

pub returns : goal.returns
returns g c = record { pending = pending-read_pending; processing = processing-read_pending }
