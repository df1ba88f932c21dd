use Rattle.std.proofs.Common.{T, sym, ap, subst, ◌∙◌, List, ℕ}
use Rattle.std.specs.FinMap.{is_sorted}
use Rattle.std.specs.Ordering.{nat_cmp}
use Rattle.fk_queues.specs.KernelQueues.{served_in, without_served}
use Rattle.fk_queues.specs.Releases.{releases_of}
use Rattle.fk_queues.proofs.Releases.{released_answered}
use Rattle.fk_queues.proofs.Served.{served_answered}
use Rattle.fk_queues.proofs.kernel_queues.KernelQueuesQueueTablePurpose.answer.Goals as goal

pub invariant_of-self-2 : goal.invariant_of-self-2
invariant_of-self-2 g c =
    let s = g.Q.QueueTable.state c.self.inside.queues in
    let kept = c.in_ok-kept.kept in
    let waits = sym (rw c.in_ok-kept.was at c.answer.ensures.kept) in
    let sorted : T (is_sorted nat_cmp (served_in s.requests)) =
    subst (λ (m : List (ℕ × ℕ)). T (is_sorted nat_cmp m)) c.self.invariant.served c.drop_served.ensures.sorted in
    rw c.answer.ensures.state
    (record {
      pinned =
          c.unpin_released.ensures.pins (releases_of s.requests) _ c.self.invariant.pinned
          (λ node. released_answered s c.args.unique kept node waits);
      served =
          c.drop_served.ensures.calls
          ∙ ap (λ (m : List (ℕ × ℕ)). without_served c.args.unique kept m) c.self.invariant.served
          ∙ sym (served_answered s c.args.unique kept sorted waits);
    })
