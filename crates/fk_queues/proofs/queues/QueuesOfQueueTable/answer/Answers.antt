use Rattle.std.proofs.Common.{arith}
use Rattle.fuse_spec.specs.Kernel.Queues.{QueueState}
use Rattle.fuse_spec.proofs.QueueSoundness.{IsSound-without}
use Rattle.fk_queues.proofs.queues.QueuesOfQueueTable.answer.Goals as goal

pub invariant_of-self : goal.invariant_of-self
invariant_of-self g c =
    let q = c.self.inside in
    let s : QueueState _ = record {
      requests = g.S.RequestStore.entries q.requests;
      interrupts = q.interrupts.numbers.items;
      forgets = q.forgets.items.items;
      next = q.uniques;
      interrupts_off = q.interrupts.off;
    } in
    record {
      sound = rw (c.take.ensures.entries, c.remove.ensures.numbers, c.remove.ensures.off)
          (IsSound-without s c.args.unique c.self.invariant.sound);
      fits = omega (arith, c.self.invariant.fits);
    }

pub invariant_of-self-2 : goal.invariant_of-self-2
invariant_of-self-2 g c =
    let q = c.self.inside in
    let s : QueueState _ = record {
      requests = g.S.RequestStore.entries q.requests;
      interrupts = q.interrupts.numbers.items;
      forgets = q.forgets.items.items;
      next = q.uniques;
      interrupts_off = q.interrupts.off;
    } in
    record {
      sound = rw (c.take.ensures.entries, c.remove.ensures.numbers, c.remove.ensures.off)
          (IsSound-without s c.args.unique c.self.invariant.sound);
      fits = omega (arith, c.self.invariant.fits);
    }
