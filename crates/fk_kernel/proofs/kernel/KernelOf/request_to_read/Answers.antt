use Rattle.std.proofs.Common.{◌≡◌, ℕ, true, false, Some, None, slice_get, ap, sym, ◌∙◌, Bor}
use Rattle.std.specs.Prelude.{is_some, option_map}
use Rattle.fuse_spec.specs.Kernel.Kernel.{is_live, body_of}
use Rattle.fk_kernel.specs.Soundness.{ServesCalls}
use Rattle.fuse_spec.specs.Kernel.QueueCalls.{pending_at}
use Rattle.fuse_spec.specs.declared.Purpose.{Purpose}
use Rattle.fk_kernel.proofs.ForgetReads.{interrupt_pending, none_pending, pending_asks, pending_unrefused}
use Rattle.fk_kernel.proofs.kernel.KernelOf.request_to_read.Given as given
use Rattle.fk_kernel.proofs.kernel.KernelOf.request_to_read.Goals.{After-pending, In-Some}
use Rattle.fk_kernel.proofs.kernel.KernelOf.request_to_read.Goals as goal

-- no interrupt is queued
uninterrupted : (g : given.Over) (c : After-pending g)
    → is_some (slice_get c.args.self.now.queues.interrupts 0) ≡ false
uninterrupted g c = rw (← c.self.view_is) (ap is_some (sym c.first_interrupt.ensures)
    ∙ sym c.is_some.ensures ∙ c.if-is_some.false)

-- what is pending
is_pending : (g : given.Over) (c : In-Some g)
    → pending_at c.args.self.now.queues c.args.place ≡ Some (c.in-Some.unique, c.in-Some.purpose.now)
is_pending g c = rw (← c.self.view_is) (sym c.pending.ensures
    ∙ ap (option_map (λ (p : ℕ × Bor Purpose). (p.0, p.1.now))) c.in-Some.is)

-- and asks something
has_body : (g : given.Over) (c : In-Some g) → is_some (body_of c.args.self.now c.in-Some.purpose.now) ≡ true
has_body g c =
    let served : ServesCalls c.args.self.now.vfs.calls c.args.self.now.queues =
    rw (← c.self.view_is) c.self.invariant.served in
    pending_asks c.args.self.now served c.args.place (c.in-Some.unique, c.in-Some.purpose.now) (is_pending g c)

pub returns-then-is_some-clause-refusal : goal.returns-then-is_some-clause-refusal
returns-then-is_some-clause-refusal g c =
    let k = c.args.self.now in
    let live : is_live k.phase ≡ true = sym c.is_live.ensures ∙ c.if-not-is_live.false in
    let some : is_some (slice_get k.queues.interrupts 0) ≡ true =
    rw (← c.self.view_is) (ap is_some
    (sym c.first_interrupt.ensures) ∙ sym c.is_some.ensures ∙ c.if-is_some.true) in
    interrupt_pending k c.args.place live some

pub returns-in_default-clause-refusal : goal.returns-in_default-clause-refusal
returns-in_default-clause-refusal g c =
    let k = c.args.self.now in
    let live : is_live k.phase ≡ true = sym c.is_live.ensures ∙ c.if-not-is_live.false in
    let nothing : pending_at k.queues c.args.place ≡ None = rw (← c.self.view_is) (sym c.pending.ensures
    ∙ ap (option_map (λ (p : ℕ × Bor Purpose). (p.0, p.1.now))) c.in_default.is) in
    none_pending k c.args.place live
    (uninterrupted g (goal.at.returns-in_default-clause-refusal g c).After-pending) nothing

pub returns-clause-judged : goal.returns-clause-judged
returns-clause-judged g c =
    let k = c.args.self.now in
    let at = goal.at.returns-clause-judged g c in
    let live : is_live k.phase ≡ true = sym c.is_live.ensures ∙ c.if-not-is_live.false in
    pending_unrefused k c.args.place live (uninterrupted g at.After-pending) (c.in-Some.unique, c.in-Some.purpose.now)
    (is_pending g at.In-Some) (has_body g at.In-Some)

pub returns-clause-pending : goal.returns-clause-pending
returns-clause-pending g c = is_pending g (goal.at.returns-clause-pending g c).In-Some

pub returns-clause-asks : goal.returns-clause-asks
returns-clause-asks g c = has_body g (goal.at.returns-clause-asks g c).In-Some
