use Rattle.std.proofs.Common.{sym, ◌∙◌}
use Rattle.fk_queues.proofs.Releases.{released_read, same_pins}
use Rattle.fk_queues.proofs.Served.{served_read}
use Rattle.fk_queues.proofs.kernel_queues.KernelQueuesQueueTablePurpose.read_pending.Goals as goal

pub invariant_of-self : goal.invariant_of-self
invariant_of-self g c =
    let s = g.Q.QueueTable.state c.self.inside.queues in
    rw c.read_pending.ensures.state
    (record {
      pinned = same_pins _ _ _ c.self.invariant.pinned (λ node. released_read s c.args.place node);
      served = c.self.invariant.served ∙ sym (served_read s c.args.place);
    })
