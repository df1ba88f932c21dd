use Rattle.std.proofs.Common.{◌≡◌, ◌≤◌, ◌<◌, ◌^◌, true, false, Some, slice_get, ap, sym, ◌∙◌, arith}
use Rattle.std.specs.Prelude.{is_some}
use Rattle.fuse_spec.specs.Kernel.Kernel.{is_live, forgets_read}
use Rattle.fuse_spec.specs.Kernel.Uniques.{numbers_left_from}
use Rattle.fk_kernel.proofs.ForgetReads.{interrupts_first, no_forgets, no_number_left, read_unrefused}
use Rattle.fk_kernel.proofs.kernel.KernelOf.forgets_to_read.Goals as goal

pub returns-then-is_some-clause-refusal : goal.returns-then-is_some-clause-refusal
returns-then-is_some-clause-refusal g c =
    let k = c.args.self.now in
    let live : is_live k.phase ≡ true = sym c.is_live.ensures ∙ c.if-not-is_live.false in
    let some : is_some (slice_get k.queues.interrupts 0) ≡ true =
    rw (← c.self.view_is) (ap is_some
    (sym c.first_interrupt.ensures) ∙ sym c.is_some.ensures ∙ c.if-is_some.true) in
    interrupts_first k c.args.count live some

pub returns-in_default-clause-refusal : goal.returns-in_default-clause-refusal
returns-in_default-clause-refusal g c =
    let k = c.args.self.now in
    let live : is_live k.phase ≡ true = sym c.is_live.ensures ∙ c.if-not-is_live.false in
    let none : is_some (slice_get k.queues.interrupts 0) ≡ false =
    rw (← c.self.view_is) (ap is_some
    (sym c.first_interrupt.ensures) ∙ sym c.is_some.ensures ∙ c.if-is_some.false) in
    no_forgets k c.args.count live none (sym c.first_forgets.ensures ∙ c.in_default.is)

pub returns-then-numbers_left-eq0-clause-refusal : goal.returns-then-numbers_left-eq0-clause-refusal
returns-then-numbers_left-eq0-clause-refusal g c =
    let k = c.args.self.now in
    let live : is_live k.phase ≡ true = sym c.is_live.ensures ∙ c.if-not-is_live.false in
    let none : is_some (slice_get k.queues.interrupts 0) ≡ false =
    rw (← c.self.view_is) (ap is_some
    (sym c.first_interrupt.ensures) ∙ sym c.is_some.ensures ∙ c.if-is_some.false) in
    let first : forgets_read k c.args.count ≡ Some c.in-Some.read = sym c.first_forgets.ensures ∙ c.in-Some.is in
    let left : numbers_left_from k.queues.next ≡ 0 =
    rw (← c.self.view_is) (sym c.numbers_left.ensures ∙ c.if-numbers_left-eq0.true) in
    no_number_left k c.args.count live none c.in-Some.read first left

pub returns-clause-judged : goal.returns-clause-judged
returns-clause-judged g c =
    let k = c.args.self.now in
    let live : is_live k.phase ≡ true = sym c.is_live.ensures ∙ c.if-not-is_live.false in
    let none : is_some (slice_get k.queues.interrupts 0) ≡ false =
    rw (← c.self.view_is) (ap is_some
    (sym c.first_interrupt.ensures) ∙ sym c.is_some.ensures ∙ c.if-is_some.false) in
    let first : forgets_read k c.args.count ≡ Some c.in-Some.read = sym c.first_forgets.ensures ∙ c.in-Some.is in
    let some : 0 < c.numbers_left.result = omega (arith, c.if-numbers_left-eq0.false) in
    let left : 0 < numbers_left_from k.queues.next = rw (← c.self.view_is) (rw c.numbers_left.ensures at some) in
    let low : k.vfs.next_call ≤ 2 ^ 62 = rw (← c.self.view_is) c.self.invariant.numbers.next in
    read_unrefused k c.args.count live none c.in-Some.read first left low

pub returns-clause-read : goal.returns-clause-read
returns-clause-read g c = sym c.first_forgets.ensures ∙ c.in-Some.is
