use Rattle.std.proofs.Common.{◌≡◌, ◌≤◌, ◌∙◌, rules, arith, ap, Some, length, slice_get, refl, inl, inr}
use Rattle.fuse_spec.specs.declared.Mark.TheVariants.{Unread, Flagged, Read}
use Rattle.fuse_spec.specs.Kernel.Queues.{QueueState, pending, mark_under}
use Rattle.fuse_spec.proofs.QueueSoundness.{interrupts-lt-requests, none_queued, IsSound-mark, IsSound-mark_interrupted, mark_under-pending}
use Rattle.fk_queues.proofs.queues.QueuesOfQueueTable.read_pending.Goals as goal

pub invariant_of-self : goal.invariant_of-self
invariant_of-self g c =
    let q = c.self.inside in
    let s : QueueState _ = record {
      requests = g.S.RequestStore.entries q.requests;
      interrupts = q.interrupts.numbers.items;
      forgets = q.forgets.items.items;
      next = q.uniques;
      interrupts_off = q.interrupts.off;
    } in
    let unique = c.in_ok-unique.unique in
    let request = c.in_ok-unique.request.now in
    let found : slice_get (pending s) c.args.place ≡ Some (unique, request) = search rules in
    let marked_so : mark_under s unique ≡ Some request.mark =
    mark_under-pending s c.args.place (unique, request) c.self.invariant.sound found in
    let marked : mark_under s unique ≡ Some Unread = marked_so ∙ ap Some c.in-Unread.is in
    record {
      sound = rw c.put_mark.ensures.entries (IsSound-mark s unique Unread Read c.self.invariant.sound marked refl);
      fits = omega (arith, c.self.invariant.fits);
    }

pub push-requires : goal.push-requires
push-requires g c =
    let q = c.self.inside in
    let s : QueueState _ = record {
      requests = g.S.RequestStore.entries q.requests;
      interrupts = q.interrupts.numbers.items;
      forgets = q.forgets.items.items;
      next = q.uniques;
      interrupts_off = q.interrupts.off;
    } in
    let unique = c.in_ok-unique.unique in
    let request = c.in_ok-unique.request.now in
    let found : slice_get (pending s) c.args.place ≡ Some (unique, request) = search rules in
    let marked_so : mark_under s unique ≡ Some request.mark =
    mark_under-pending s c.args.place (unique, request) c.self.invariant.sound found in
    let marked : mark_under s unique ≡ Some Flagged = marked_so ∙ ap Some c.in-Flagged.is in
    let fewer = interrupts-lt-requests s unique Flagged c.self.invariant.sound marked
    (none_queued s unique Flagged c.self.invariant.sound marked refl) in
    let fits : length s.requests ≤ _ = c.self.invariant.fits in
    omega arith

pub invariant_of-self-in-Flagged : goal.invariant_of-self-in-Flagged
invariant_of-self-in-Flagged g c =
    let q = c.self.inside in
    let s : QueueState _ = record {
      requests = g.S.RequestStore.entries q.requests;
      interrupts = q.interrupts.numbers.items;
      forgets = q.forgets.items.items;
      next = q.uniques;
      interrupts_off = q.interrupts.off;
    } in
    let unique = c.in_ok-unique.unique in
    let request = c.in_ok-unique.request.now in
    let found : slice_get (pending s) c.args.place ≡ Some (unique, request) = search rules in
    let marked_so : mark_under s unique ≡ Some request.mark =
    mark_under-pending s c.args.place (unique, request) c.self.invariant.sound found in
    let marked : mark_under s unique ≡ Some Flagged = marked_so ∙ ap Some c.in-Flagged.is in
    record {
      sound = rw (c.put_mark-in-Flagged.ensures.entries, c.push.ensures.numbers, c.push.ensures.off)
          (IsSound-mark_interrupted s unique Flagged c.self.invariant.sound marked refl);
      fits = omega (arith, c.self.invariant.fits);
    }

pub returns-in-Unread-clause-state : goal.returns-in-Unread-clause-state
returns-in-Unread-clause-state g c =
    let q = c.self.inside in
    let s : QueueState _ = record {
      requests = g.S.RequestStore.entries q.requests;
      interrupts = q.interrupts.numbers.items;
      forgets = q.forgets.items.items;
      next = q.uniques;
      interrupts_off = q.interrupts.off;
    } in
    let found : slice_get (pending s) c.args.place ≡ Some (c.in_ok-unique.unique, c.in_ok-unique.request.now) =
    search rules in
    rw (← c.self.view_is, found, c.in-Unread.is, c.put_mark.ensures.entries) refl

pub returns-in-Flagged-clause-state : goal.returns-in-Flagged-clause-state
returns-in-Flagged-clause-state g c =
    let q = c.self.inside in
    let s : QueueState _ = record {
      requests = g.S.RequestStore.entries q.requests;
      interrupts = q.interrupts.numbers.items;
      forgets = q.forgets.items.items;
      next = q.uniques;
      interrupts_off = q.interrupts.off;
    } in
    let found : slice_get (pending s) c.args.place ≡ Some (c.in_ok-unique.unique, c.in_ok-unique.request.now) =
    search rules in
    rw (
      ← c.self.view_is,
      found,
      c.in-Flagged.is,
      c.put_mark-in-Flagged.ensures.entries,
      c.push.ensures.numbers,
      c.push.ensures.off,
    ) refl

pub returns-in-Read-clause-state : goal.returns-in-Read-clause-state
returns-in-Read-clause-state g c =
    let q = c.self.inside in
    let s : QueueState _ = record {
      requests = g.S.RequestStore.entries q.requests;
      interrupts = q.interrupts.numbers.items;
      forgets = q.forgets.items.items;
      next = q.uniques;
      interrupts_off = q.interrupts.off;
    } in
    let found : slice_get (pending s) c.args.place ≡ Some (c.in_ok-unique.unique, c.in_ok-unique.request.now) =
    search rules in
    elim c.in-Read.is [
      | inl read ↦ rw (← c.self.view_is, found, read) refl
      | inr interrupted ↦ rw (← c.self.view_is, found, interrupted) refl
    ]
