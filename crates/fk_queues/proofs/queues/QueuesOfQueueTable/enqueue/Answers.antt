use Rattle.std.proofs.Common.{◌≡◌, ◌+◌, ◌∙◌, ap, length, rules, arith}
use Rattle.std.proofs.lemmas.List.{length-append}
use Rattle.fuse_spec.specs.Kernel.Queues.{QueueState}
use Rattle.fuse_spec.proofs.QueueSoundness.{IsSound-enqueue}
use Rattle.fk_queues.proofs.Requests.{allocated_all_below}
use Rattle.fk_queues.proofs.queues.QueuesOfQueueTable.enqueue.Goals as goal

pub push-requires-clause-above : goal.push-requires-clause-above
push-requires-clause-above g c =
    let q = c.self.inside in
    let s : QueueState _ = record {
      requests = g.S.RequestStore.entries q.requests;
      interrupts = q.interrupts.numbers.items;
      forgets = q.forgets.items.items;
      next = q.uniques;
      interrupts_off = q.interrupts.off;
    } in
    let allocated : c.unwrap-unique.result ≡ q.uniques = search rules in
    rw allocated (allocated_all_below s.next s.requests c.self.invariant.sound.requests)

pub invariant_of-self : goal.invariant_of-self
invariant_of-self g c =
    let q = c.self.inside in
    let s : QueueState _ = record {
      requests = g.S.RequestStore.entries q.requests;
      interrupts = q.interrupts.numbers.items;
      forgets = q.forgets.items.items;
      next = q.uniques;
      interrupts_off = q.interrupts.off;
    } in
    let rises : c.next.new.self ≡ q.uniques + 2 = search rules in
    let allocated : c.unwrap-unique.result ≡ q.uniques = search rules in
    let room = rw (← c.self.view_is) at c.requires.room in
    let long : length (g.S.RequestStore.entries c.push.new.self) ≡ length s.requests + 1 =
    ap length c.push.ensures.entries ∙ length-append s.requests _ in
    record {
      sound = rw (c.push.ensures.entries, allocated, rises)
          (IsSound-enqueue s c.args.kept c.self.invariant.sound (rw rises at c.next.ensures.next));
      fits = omega (arith, long, c.self.invariant.fits, room);
    }
