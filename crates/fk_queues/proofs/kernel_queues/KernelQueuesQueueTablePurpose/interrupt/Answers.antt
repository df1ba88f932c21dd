use Rattle.std.proofs.Common.{◌≡◌, T, List, ℕ, sym, ap, subst, ◌∙◌, rules}
use Rattle.std.specs.Prelude.{option_map}
use Rattle.std.specs.FinMap.{is_sorted}
use Rattle.std.specs.Ordering.{nat_cmp}
use Rattle.fuse_spec.specs.declared.Purpose.{Purpose}
use Rattle.fuse_spec.specs.declared.QueuedRequest.{QueuedRequest}
use Rattle.fuse_spec.specs.Kernel.Queues.{request_under}
use Rattle.fk_queues.specs.KernelQueues.{served_in, without_served}
use Rattle.fk_queues.specs.Releases.{releases_of}
use Rattle.fk_queues.proofs.Releases.{took_out, took_none, released_dequeued, released_signalled, same_pins}
use Rattle.fk_queues.proofs.Served.{served_dequeued, served_signalled}
use Rattle.fk_queues.proofs.kernel_queues.KernelQueuesQueueTablePurpose.interrupt.Goals as goal

pub invariant_of-self : goal.invariant_of-self
invariant_of-self g c =
    let s = g.Q.QueueTable.state c.self.inside.queues in
    let there : c.copied-kept.result ≡ option_map (λ (r : QueuedRequest Purpose). r.kept) (request_under s c.args.unique) =
    search rules in
    let out = took_out s c.args.unique c.args.fatal _ _ _ c.in-Some.kept c.interrupt-effect.ensures.effect there
    c.kept_of_dequeued.ensures.dequeued c.kept_of_dequeued.ensures.other c.in-Some.is in
    let sorted : T (is_sorted nat_cmp (served_in s.requests)) =
    subst (λ (m : List (ℕ × ℕ)). T (is_sorted nat_cmp m)) c.self.invariant.served c.drop_served.ensures.sorted in
    rw c.interrupt-effect.ensures.state
    (record {
      pinned =
          c.unpin_released.ensures.pins (releases_of s.requests) _ c.self.invariant.pinned
          (λ node. released_dequeued s c.args.unique c.args.fatal c.in-Some.kept node out.0 out.1);
      served =
          c.drop_served.ensures.calls
          ∙ ap (λ (m : List (ℕ × ℕ)). without_served c.args.unique c.in-Some.kept m) c.self.invariant.served
          ∙ sym (served_dequeued s c.args.unique c.args.fatal c.in-Some.kept sorted out.0 out.1);
    })

pub invariant_of-self-in_default : goal.invariant_of-self-in_default
invariant_of-self-in_default g c =
    let s = g.Q.QueueTable.state c.self.inside.queues in
    let there : c.copied-kept.result ≡ option_map (λ (r : QueuedRequest Purpose). r.kept) (request_under s c.args.unique) =
    search rules in
    let still = took_none s c.args.unique c.args.fatal _ _ _ c.interrupt-effect.ensures.effect there
    c.kept_of_dequeued.ensures.dequeued c.in_default.is in
    rw c.interrupt-effect.ensures.state
    (record {
      pinned = same_pins _ _ _ c.self.invariant.pinned
          (λ node. released_signalled s c.args.unique c.args.fatal node still);
      served = c.self.invariant.served ∙ sym (served_signalled s c.args.unique c.args.fatal still);
    })
