use Rattle.std.proofs.Common.{arith}
use Rattle.fuse_spec.specs.Kernel.Queues.{QueueState}
use Rattle.fuse_spec.proofs.QueueSoundness.{IsSound-read_interrupt}
use Rattle.fk_queues.proofs.queues.QueuesOfQueueTable.read_interrupt.Goals as goal

pub invariant_of-self : goal.invariant_of-self
invariant_of-self g c =
    let q = c.self.inside in
    let s : QueueState _ = record {
      requests = g.S.RequestStore.entries q.requests;
      interrupts = q.interrupts.numbers.items;
      forgets = q.forgets.items.items;
      next = q.uniques;
      interrupts_off = q.interrupts.off;
    } in
    record {
      sound = rw (c.drop_first.ensures.numbers, c.drop_first.ensures.off)
          (IsSound-read_interrupt s c.self.invariant.sound);
      fits = omega (arith, c.self.invariant.fits);
    }
