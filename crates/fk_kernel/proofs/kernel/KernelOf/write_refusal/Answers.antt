use Rattle.std.proofs.Common.{◌≡◌, None, Some, refl, sym, ap, subst, ◌∙◌}
use Rattle.std.specs.Option.{option_copied}
use Rattle.fuse_spec.specs.Kernel.QueueCalls.{waiting}
use Rattle.fuse_spec.specs.declared.Purpose.TheVariants.{Init, Release, Call}
use Rattle.fk_wire.specs.declared.opcode.Opcode.TheVariants as op
use Rattle.fk_wire.specs.Opcodes.{latest_minor}
use Rattle.fk_kernel.specs.Refused.{PassesEnd}
use Rattle.fk_kernel.specs.AwaitedReplies.{Awaited, head_unique}
use Rattle.fk_kernel.proofs.Heads.{no_head, has_head}
use Rattle.fk_kernel.proofs.PastEnds.{nothing_passes, odd_passes, init_passes, release_passes}
use Rattle.fk_kernel.proofs.RepliesTaken.{odd_test, even_test, awaited_even}
use Rattle.fuse_spec.specs.Kernel.Refusals.{is_counted_out, is_kernel_past_end}
use Rattle.fk_nodes.proofs.Outs.{or_none}
use Rattle.fk_kernel.proofs.kernel.KernelOf.write_refusal.Goals as goal

pub returns-in_default-clause-none : goal.returns-in_default-clause-none
returns-in_default-clause-none g c = λ p.
    let fault = c.in_default.ensures.fault latest_minor op.Getattr in
    no_head c.args.bytes.now c.in_default.field-0 fault.0 fault.1 p.0

pub returns-then-head-eq1-clause-none : goal.returns-then-head-eq1-clause-none
returns-then-head-eq1-clause-none g c = λ p.
    let unique = head_unique c.args.bytes.now in
    odd_passes c.args.self.now unique c.args.bytes.now
    (or_none (is_kernel_past_end c.args.self.now)
    (is_counted_out c.args.self.now.nodes) c.lemma_in_range.ensures c.lemma_counts_in_range.ensures.none_out)
    (odd_test c.in-Ok.head.unique unique c.in-Ok.ensures.ok.3 c.if-head-eq1.true) p.1

pub returns-in_default-waiting-clause-none : goal.returns-in_default-waiting-clause-none
returns-in_default-waiting-clause-none g c = λ p.
    let queues = c.self.inside.queues.queues in
    let now = c.args.self.now in
    let unique = head_unique c.args.bytes.now in
    let same = c.in-Ok.ensures.ok.3 in
    let at : waiting queues c.in-Ok.head.unique ≡ None =
    sym c.waiting.ensures ∙ ap option_copied c.in_default-waiting.is in
    let waits : waiting now.queues unique ≡ None = rw (← c.self.view_is) (ap (waiting queues) (sym same) ∙ at) in
    let awaits = awaited_even now unique (even_test c.in-Ok.head.unique unique same c.if-head-eq1.false) None waits in
    nothing_passes now unique c.args.bytes.now (subst
    (λ (a : Awaited). PassesEnd now unique c.args.bytes.now a) awaits p.1)

pub returns-in-Init-clause-none : goal.returns-in-Init-clause-none
returns-in-Init-clause-none g c = λ p.
    let queues = c.self.inside.queues.queues in
    let now = c.args.self.now in
    let unique = head_unique c.args.bytes.now in
    let same = c.in-Ok.ensures.ok.3 in
    let at : waiting queues c.in-Ok.head.unique ≡ Some c.in-Some.purpose.now =
    sym c.waiting.ensures ∙ ap option_copied c.in-Some.is in
    let waits : waiting now.queues unique ≡ Some Init =
    rw (← c.self.view_is) (ap (waiting queues) (sym same) ∙ at ∙ ap Some c.in-Init.is) in
    let even = even_test c.in-Ok.head.unique unique same c.if-head-eq1.false in
    let awaits = awaited_even now unique even (Some Init) waits in
    init_passes now unique c.args.bytes.now (or_none (is_kernel_past_end c.args.self.now)
    (is_counted_out c.args.self.now.nodes) c.lemma_in_range.ensures c.lemma_counts_in_range.ensures.none_out) even waits
    (subst (λ (a : Awaited). PassesEnd now unique c.args.bytes.now a) awaits p.1)

pub returns-in-Release-clause-none : goal.returns-in-Release-clause-none
returns-in-Release-clause-none g c = λ p.
    let queues = c.self.inside.queues.queues in
    let now = c.args.self.now in
    let unique = head_unique c.args.bytes.now in
    let same = c.in-Ok.ensures.ok.3 in
    let at : waiting queues c.in-Ok.head.unique ≡ Some c.in-Some.purpose.now =
    sym c.waiting.ensures ∙ ap option_copied c.in-Some.is in
    let waits : waiting now.queues unique ≡ Some (Release c.in-Release.field-0) =
    rw (← c.self.view_is) (ap (waiting queues) (sym same) ∙ at ∙ ap Some c.in-Release.is) in
    let even = even_test c.in-Ok.head.unique unique same c.if-head-eq1.false in
    let awaits = awaited_even now unique even (Some (Release c.in-Release.field-0)) waits in
    release_passes now unique c.args.bytes.now (or_none (is_kernel_past_end c.args.self.now)
    (is_counted_out c.args.self.now.nodes) c.lemma_in_range.ensures c.lemma_counts_in_range.ensures.none_out) even c.in-Release.field-0 waits (subst (λ (a : Awaited). PassesEnd now unique c.args.bytes.now a) awaits p.1)

pub returns-then-call_passes_end-clause-refused : goal.returns-then-call_passes_end-clause-refused
returns-then-call_passes_end-clause-refused g c =
    let queues = c.self.inside.queues.queues in
    let now = c.args.self.now in
    let unique = head_unique c.args.bytes.now in
    let same = c.in-Ok.ensures.ok.3 in
    let at : waiting queues c.in-Ok.head.unique ≡ Some c.in-Some.purpose.now =
    sym c.waiting.ensures ∙ ap option_copied c.in-Some.is in
    let waits : waiting now.queues unique ≡ Some (Call c.in-Call.call) =
    rw (← c.self.view_is) (ap (waiting queues) (sym same) ∙ at ∙ ap Some c.in-Call.is) in
    let awaits = awaited_even now unique (even_test c.in-Ok.head.unique unique same c.if-head-eq1.false)
    (Some (Call c.in-Call.call)) waits in
    let head = has_head c.args.bytes.now c.in-Ok.head.error c.in-Ok.ensures.ok.0 c.in-Ok.ensures.ok.1 c.in-Ok.ensures.ok.2 in
    (refl, (head, rw (awaits, ← same) (c.call_passes_end.ensures.past c.if-call_passes_end.true)))

pub returns-else-call_passes_end-clause-none : goal.returns-else-call_passes_end-clause-none
returns-else-call_passes_end-clause-none g c = λ p.
    let queues = c.self.inside.queues.queues in
    let now = c.args.self.now in
    let unique = head_unique c.args.bytes.now in
    let same = c.in-Ok.ensures.ok.3 in
    let at : waiting queues c.in-Ok.head.unique ≡ Some c.in-Some.purpose.now =
    sym c.waiting.ensures ∙ ap option_copied c.in-Some.is in
    let waits : waiting now.queues unique ≡ Some (Call c.in-Call.call) =
    rw (← c.self.view_is) (ap (waiting queues) (sym same) ∙ at ∙ ap Some c.in-Call.is) in
    let awaits = awaited_even now unique (even_test c.in-Ok.head.unique unique same c.if-head-eq1.false)
    (Some (Call c.in-Call.call)) waits in
    let within = c.call_passes_end.ensures.within c.if-call_passes_end.false in
    within (rw (awaits, ← same) at p.1)
