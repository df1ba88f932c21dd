use Rattle.std.proofs.Common.{refl}
use Rattle.fk_kernel.proofs.Evicted.{evicted_counted, is_there}
use Rattle.fk_kernel.proofs.Rooms.{still_room}
use Rattle.fk_kernel.proofs.Served.{same_requests, served_less}
use Rattle.fk_kernel.proofs.kernel.KernelOf.evict.Goals as goal

pub invariant_of-self : goal.invariant_of-self
invariant_of-self g c =
    let old = c.self.invariant in
    let there = is_there c.self.inside.nodes c.args.node c.in-Some-evict.count c.in-Some-evict.ensures.count in
    rw (c.forget.ensures.state, c.evict.ensures.nodes)
    (record {
      numbers = old.numbers;
      idle = old.idle;
      sorted = old.sorted;
      files = old.files;
      releases = still_room old.releases c.forget.ensures.requests_room;
      nodes =
          evicted_counted c.self.inside.nodes c.args.node c.self.inside.queues.room.forgets
          c.forget.new.self.room.forgets old.nodes there c.forget.ensures.forgets_room;
      served = served_less old.served (same_requests refl);
      clock_low =
          old.clock_low;
    })
