use Rattle.fuse_spec.proofs.QueueReadings.{kept_entries-pending_interrupt, kept_entries-processing_interrupt}
use Rattle.fk_queues.proofs.laws.interrupt_moves_none.Goals as goal

pub returns : goal.returns
returns g c = record { pending = kept_entries-pending_interrupt; processing = kept_entries-processing_interrupt }
