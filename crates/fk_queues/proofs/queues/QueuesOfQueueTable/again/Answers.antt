use Rattle.std.proofs.Common.{sym, subst, ◌≡◌, ◌≤◌, rules, arith, nat_eq, false, Some, length, ap}
use Rattle.std.specs.List.{list_any}
use Rattle.fuse_spec.specs.declared.Mark.TheVariants.{Interrupted}
use Rattle.fuse_spec.specs.Kernel.Queues.{QueueState, mark_under}
use Rattle.fuse_spec.proofs.QueueSoundness.{count_by-absent, interrupts-lt-requests, is_interrupted-marked, IsSound-interrupt}
use Rattle.fk_queues.specs.State.{QueuesState}
use Rattle.fk_queues.proofs.queues.QueuesOfQueueTable.again.Goals as goal

pub push-requires : goal.push-requires
push-requires g c =
    let q = c.self.inside in
    let s : QueueState _ = record {
      requests = g.S.RequestStore.entries q.requests;
      interrupts = q.interrupts.numbers.items;
      forgets = q.forgets.items.items;
      next = q.uniques;
      interrupts_off = q.interrupts.off;
    } in
    let view : s ≡ c.args.self.now.queues = ap (λ (v : QueuesState _). v.queues) c.self.view_is in
    let IsMarked : QueueState _ → Type 0 = λ v. mark_under v c.args.unique ≡ Some Interrupted in
    let marked : IsMarked s = subst IsMarked (sym view) (search rules) in
    let absent : list_any (nat_eq c.args.unique) s.interrupts ≡ false = search rules in
    let fewer = interrupts-lt-requests s c.args.unique Interrupted c.self.invariant.sound marked
    (count_by-absent c.args.unique s.interrupts absent) in
    let fits : length s.requests ≤ _ = c.self.invariant.fits in
    omega arith

pub invariant_of-self : goal.invariant_of-self
invariant_of-self g c =
    let q = c.self.inside in
    let s : QueueState _ = record {
      requests = g.S.RequestStore.entries q.requests;
      interrupts = q.interrupts.numbers.items;
      forgets = q.forgets.items.items;
      next = q.uniques;
      interrupts_off = q.interrupts.off;
    } in
    let view : s ≡ c.args.self.now.queues = ap (λ (v : QueuesState _). v.queues) c.self.view_is in
    let IsMarked : QueueState _ → Type 0 = λ v. mark_under v c.args.unique ≡ Some Interrupted in
    let marked : IsMarked s = subst IsMarked (sym view) (search rules) in
    let absent : list_any (nat_eq c.args.unique) s.interrupts ≡ false = search rules in
    let none = count_by-absent c.args.unique s.interrupts absent in
    record {
      sound = rw (c.push.ensures.numbers, c.push.ensures.off)
          (IsSound-interrupt s c.args.unique c.self.invariant.sound
          (is_interrupted-marked s c.args.unique Interrupted marked) none);
      fits = omega (arith, c.self.invariant.fits);
    }
