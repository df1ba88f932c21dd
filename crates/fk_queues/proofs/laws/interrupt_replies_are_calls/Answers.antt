use Rattle.fuse_spec.proofs.QueueReadings.{after_interrupt_reply-not_supported, after_interrupt_reply-other}
use Rattle.fk_queues.proofs.laws.interrupt_replies_are_calls.Goals as goal

pub returns : goal.returns
returns g c = record { not_supported = after_interrupt_reply-not_supported; other = after_interrupt_reply-other }
