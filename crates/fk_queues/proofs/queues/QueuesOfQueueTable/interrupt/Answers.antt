use Rattle.std.proofs.Common.{sym, subst, ◌≡◌, ◌≤◌, rules, arith, true, Some, length, refl, ap}
use Rattle.fuse_spec.specs.declared.Mark.TheVariants.{Unread, Flagged, Read}
use Rattle.fuse_spec.specs.Kernel.Queues.{QueueState, mark_under, is_unread}
use Rattle.fuse_spec.proofs.QueueSoundness.{interrupts-lt-requests, none_queued, IsSound-dequeue, IsSound-mark, IsSound-mark_interrupted, has_interrupt-unread}
use Rattle.fk_queues.specs.State.{QueuesState}
use Rattle.fk_queues.proofs.queues.QueuesOfQueueTable.interrupt.Goals as goal

pub invariant_of-self : goal.invariant_of-self
invariant_of-self g c =
    let q = c.self.inside in
    let s : QueueState _ = record {
      requests = g.S.RequestStore.entries q.requests;
      interrupts = q.interrupts.numbers.items;
      forgets = q.forgets.items.items;
      next = q.uniques;
      interrupts_off = q.interrupts.off;
    } in
    let view : s ≡ c.args.self.now.queues = ap (λ (v : QueuesState _). v.queues) c.self.view_is in
    let IsMarked : QueueState _ → Type 0 = λ v. mark_under v c.args.unique ≡ Some c.in-Some.mark in
    let marked : IsMarked s = subst IsMarked (sym view) (search rules) in
    let unread : is_unread c.in-Some.mark ≡ true = search rules in
    record {
      sound = rw c.take-gone.ensures.entries
          (IsSound-dequeue s c.args.unique c.in-Some.mark c.self.invariant.sound marked
          (has_interrupt-unread c.in-Some.mark unread));
      fits = omega (arith, c.self.invariant.fits);
    }

pub invariant_of-self-in-Unread : goal.invariant_of-self-in-Unread
invariant_of-self-in-Unread g c =
    let q = c.self.inside in
    let s : QueueState _ = record {
      requests = g.S.RequestStore.entries q.requests;
      interrupts = q.interrupts.numbers.items;
      forgets = q.forgets.items.items;
      next = q.uniques;
      interrupts_off = q.interrupts.off;
    } in
    let view : s ≡ c.args.self.now.queues = ap (λ (v : QueuesState _). v.queues) c.self.view_is in
    let IsMarked : QueueState _ → Type 0 = λ v. mark_under v c.args.unique ≡ Some Unread in
    let marked : IsMarked s = subst IsMarked (sym view) (search rules) in
    record {
      sound = rw c.put_mark.ensures.entries
          (IsSound-mark s c.args.unique Unread Flagged c.self.invariant.sound marked refl);
      fits = omega (arith, c.self.invariant.fits);
    }

pub push-requires : goal.push-requires
push-requires g c =
    let q = c.self.inside in
    let s : QueueState _ = record {
      requests = g.S.RequestStore.entries q.requests;
      interrupts = q.interrupts.numbers.items;
      forgets = q.forgets.items.items;
      next = q.uniques;
      interrupts_off = q.interrupts.off;
    } in
    let view : s ≡ c.args.self.now.queues = ap (λ (v : QueuesState _). v.queues) c.self.view_is in
    let IsMarked : QueueState _ → Type 0 = λ v. mark_under v c.args.unique ≡ Some Read in
    let marked : IsMarked s = subst IsMarked (sym view) (search rules) in
    let fewer = interrupts-lt-requests s c.args.unique Read c.self.invariant.sound marked
    (none_queued s c.args.unique Read c.self.invariant.sound marked refl) in
    let fits : length s.requests ≤ _ = c.self.invariant.fits in
    omega arith

pub invariant_of-self-in-Read : goal.invariant_of-self-in-Read
invariant_of-self-in-Read g c =
    let q = c.self.inside in
    let s : QueueState _ = record {
      requests = g.S.RequestStore.entries q.requests;
      interrupts = q.interrupts.numbers.items;
      forgets = q.forgets.items.items;
      next = q.uniques;
      interrupts_off = q.interrupts.off;
    } in
    let view : s ≡ c.args.self.now.queues = ap (λ (v : QueuesState _). v.queues) c.self.view_is in
    let IsMarked : QueueState _ → Type 0 = λ v. mark_under v c.args.unique ≡ Some Read in
    let marked : IsMarked s = subst IsMarked (sym view) (search rules) in
    record {
      sound = rw (c.put_mark-in-Read.ensures.entries, c.push.ensures.numbers, c.push.ensures.off)
          (IsSound-mark_interrupted s c.args.unique Read c.self.invariant.sound marked refl);
      fits = omega (arith, c.self.invariant.fits);
    }
