use Rattle.std.proofs.Common.{arith, sym}
use Rattle.fk_opens.proofs.Pins.{few_pins}
use Rattle.fk_queues.specs.Releases.{releases_of}
use Rattle.fk_queues.proofs.Releases.{released_last, releases_most, same_pins}
use Rattle.fk_queues.proofs.Requests.{allocated_all_below}
use Rattle.fk_queues.proofs.Served.{served_above, served_last}
use Rattle.fk_queues.proofs.kernel_queues.KernelQueuesQueueTablePurpose.enqueue.Goals as goal

pub pin_released-requires-clause-small : goal.pin_released-requires-clause-small
pin_released-requires-clause-small g c = λ node.
    let es = (g.Q.QueueTable.state c.self.inside.queues).requests in
    few_pins c.self.invariant.pinned node (omega (arith, releases_most es node, c.lemma_sound.ensures.few))

pub put_served-requires-clause-above : goal.put_served-requires-clause-above
put_served-requires-clause-above g c =
    let s = g.Q.QueueTable.state c.self.inside.queues in
    rw (c.self.invariant.served, c.enqueue-unique.ensures.unique)
    (served_above s.next s.requests (allocated_all_below s.next s.requests c.lemma_sound.ensures.sound.requests))

pub invariant_of-self : goal.invariant_of-self
invariant_of-self g c =
    let es = (g.Q.QueueTable.state c.self.inside.queues).requests in
    rw c.enqueue-unique.ensures.state
    (record {
      pinned = same_pins _ _ _ (c.pin_released.ensures.pins (releases_of es) c.self.invariant.pinned)
          (λ node. released_last es _ node);
      served = rw (c.put_served.ensures.calls, c.enqueue-unique.ensures.unique, c.self.invariant.served)
          (sym (served_last es _));
    })
