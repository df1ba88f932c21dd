use Rattle.std.proofs.Common.{◌≡◌, ℕ, ◌-◌, Some, None, sym, ap, ◌∙◌}
use Rattle.std.specs.Option.{option_copied}
use Rattle.fuse_spec.specs.Kernel.QueueCalls.{waiting}
use Rattle.fuse_spec.specs.declared.Purpose.TheVariants.{Init, Release, Call}
use Rattle.fuse_spec.specs.Values.Maps.{get}
use Rattle.fk_kernel.specs.AwaitedReplies.{awaited_by_call, head_unique}
use Rattle.fk_kernel.proofs.PastEnds.{memory_last}
use Rattle.fk_kernel.proofs.RepliesTaken.{odd_test, even_test, taken_odd, taken_even, awaited_even, taken_none, taken_judged}
use Rattle.fk_wire.specs.declared.opcode.Opcode.TheVariants as op
use Rattle.fk_wire.specs.Opcodes.{latest_minor}
use Rattle.fk_kernel.proofs.Heads.{no_head}
use Rattle.fk_kernel.proofs.OfNoCall.{awaited_of_call, call_awaits}
use Rattle.fk_kernel.specs.Soundness.{ServesCalls}
use Rattle.fk_kernel.proofs.Served.{read_unanswered}
use Rattle.fk_kernel.proofs.kernel.KernelOf.write.Goals as goal

pub returns-in_default-clause-unawaited : goal.returns-in_default-clause-unawaited
returns-in_default-clause-unawaited g c = λ head awaits.
    let fault = c.in_default.ensures.fault latest_minor op.Getattr in
    absurd (no_head c.args.bytes.now c.in_default.field-0 fault.0 fault.1 head)

pub returns-in_default-clause-taken : goal.returns-in_default-clause-taken
returns-in_default-clause-taken g c = λ head.
    let fault = c.in_default.ensures.fault latest_minor op.Getattr in
    absurd (no_head c.args.bytes.now c.in_default.field-0 fault.0 fault.1 head)

pub returns-then-head-eq1-clause-taken : goal.returns-then-head-eq1-clause-taken
returns-then-head-eq1-clause-taken g c = λ head.
    let unique = head_unique c.args.bytes.now in
    let same = c.in-Ok.ensures.ok.3 in
    let say = c.write_to_interrupt.ensures in
    taken_odd c.args.self.now unique c.args.bytes.now _ _ (odd_test c.in-Ok.head.unique unique same c.if-head-eq1.true)
    c.original_of.result
    (c.original_of.ensures.number ∙ ap (λ (n : ℕ). c.in-Ok.head.unique - n) c.if-head-eq1.true
    ∙ ap (λ (n : ℕ). n - 1) same) say.said say.unsaid

pub returns-in_default-waiting-clause-taken : goal.returns-in_default-waiting-clause-taken
returns-in_default-waiting-clause-taken g c = λ head.
    let queues = c.self.inside.queues.queues in
    let unique = head_unique c.args.bytes.now in
    let same = c.in-Ok.ensures.ok.3 in
    let at : waiting queues c.in-Ok.head.unique ≡ None =
    sym c.waiting.ensures ∙ ap option_copied c.in_default-waiting.is in
    let waits : waiting c.args.self.now.queues unique ≡ None =
    rw (← c.self.view_is) (ap (waiting queues) (sym same) ∙ at) in
    taken_even _ unique _ _ _ (even_test c.in-Ok.head.unique unique same c.if-head-eq1.false) None waits
    (taken_none _ unique _ _ _)

pub returns-in-Init-clause-taken : goal.returns-in-Init-clause-taken
returns-in-Init-clause-taken g c = λ head.
    let queues = c.self.inside.queues.queues in
    let unique = head_unique c.args.bytes.now in
    let same = c.in-Ok.ensures.ok.3 in
    let at : waiting queues c.in-Ok.head.unique ≡ Some c.in-Some.purpose.now =
    sym c.waiting.ensures ∙ ap option_copied c.in-Some.is in
    let waits : waiting c.args.self.now.queues unique ≡ Some Init =
    rw (← c.self.view_is) (ap (waiting queues) (sym same) ∙ at ∙ ap Some c.in-Init.is) in
    let say = c.write_to_init.ensures in
    taken_even c.args.self.now unique c.args.bytes.now _ _ (even_test c.in-Ok.head.unique unique same c.if-head-eq1.false)
    (Some Init) waits
    (taken_judged c.args.self.now unique c.args.bytes.now _ _ op.Init tt (rw (← same) say.said)
    (rw (← same) say.unsaid))

pub write_to_release-requires-clause-waits : goal.write_to_release-requires-clause-waits
write_to_release-requires-clause-waits g c =
    let queues = c.self.inside.queues.queues in
    let at : waiting queues c.in-Ok.head.unique ≡ Some c.in-Some.purpose.now =
    sym c.waiting.ensures ∙ ap option_copied c.in-Some.is in
    (c.in-Release.field-0, rw (← c.self.view_is) (at ∙ ap Some c.in-Release.is))

pub returns-in-Release-clause-taken : goal.returns-in-Release-clause-taken
returns-in-Release-clause-taken g c = λ head.
    let queues = c.self.inside.queues.queues in
    let unique = head_unique c.args.bytes.now in
    let same = c.in-Ok.ensures.ok.3 in
    let at : waiting queues c.in-Ok.head.unique ≡ Some c.in-Some.purpose.now =
    sym c.waiting.ensures ∙ ap option_copied c.in-Some.is in
    let waits : waiting c.args.self.now.queues unique ≡ Some (Release c.in-Release.field-0) =
    rw (← c.self.view_is) (ap (waiting queues) (sym same) ∙ at ∙ ap Some c.in-Release.is) in
    let say = c.write_to_release.ensures in
    taken_even c.args.self.now unique c.args.bytes.now _ _ (even_test c.in-Ok.head.unique unique same c.if-head-eq1.false)
    (Some (Release c.in-Release.field-0)) waits
    (taken_judged c.args.self.now unique c.args.bytes.now _ _ op.Release tt (rw (← same) say.said)
    (rw (← same) say.unsaid))

pub returns-in-Call-clause-refusal : goal.returns-in-Call-clause-refusal
returns-in-Call-clause-refusal g c = λ head.
    let queues = c.self.inside.queues.queues in
    let unique = head_unique c.args.bytes.now in
    let same = c.in-Ok.ensures.ok.3 in
    let at : waiting queues c.in-Ok.head.unique ≡ Some c.in-Some.purpose.now =
    sym c.waiting.ensures ∙ ap option_copied c.in-Some.is in
    let waits : waiting c.args.self.now.queues unique ≡ Some (Call c.in-Call.call) =
    rw (← c.self.view_is) (ap (waiting queues) (sym same) ∙ at ∙ ap Some c.in-Call.is) in
    let awaits = awaited_even c.args.self.now unique (even_test c.in-Ok.head.unique unique same c.if-head-eq1.false)
    (Some (Call c.in-Call.call)) waits in
    rw (awaits, ← same) c.write_to_call.ensures.refusal

pub returns-in-Call-clause-taken : goal.returns-in-Call-clause-taken
returns-in-Call-clause-taken g c = λ head.
    let queues = c.self.inside.queues.queues in
    let unique = head_unique c.args.bytes.now in
    let same = c.in-Ok.ensures.ok.3 in
    let at : waiting queues c.in-Ok.head.unique ≡ Some c.in-Some.purpose.now =
    sym c.waiting.ensures ∙ ap option_copied c.in-Some.is in
    let waits : waiting c.args.self.now.queues unique ≡ Some (Call c.in-Call.call) =
    rw (← c.self.view_is) (ap (waiting queues) (sym same) ∙ at ∙ ap Some c.in-Call.is) in
    let awaits = awaited_even c.args.self.now unique (even_test c.in-Ok.head.unique unique same c.if-head-eq1.false)
    (Some (Call c.in-Call.call)) waits in
    rw (awaits, ← same) c.write_to_call.ensures.taken

pub returns-in-Call-clause-memory : goal.returns-in-Call-clause-memory
returns-in-Call-clause-memory g c =
    let queues = c.self.inside.queues.queues in
    let now = c.args.self.now in
    let unique = head_unique c.args.bytes.now in
    let same = c.in-Ok.ensures.ok.3 in
    let at : waiting queues c.in-Ok.head.unique ≡ Some c.in-Some.purpose.now =
    sym c.waiting.ensures ∙ ap option_copied c.in-Some.is in
    let waits : waiting now.queues unique ≡ Some (Call c.in-Call.call) =
    rw (← c.self.view_is) (ap (waiting queues) (sym same) ∙ at ∙ ap Some c.in-Call.is) in
    let awaits = awaited_even now unique (even_test c.in-Ok.head.unique unique same c.if-head-eq1.false)
    (Some (Call c.in-Call.call)) waits in
    memory_last now c.in-Ok.head.unique c.args.bytes.now (awaited_by_call
    (get now.vfs.calls c.in-Call.call)) c.write_to_call.result
    (λ p. rw (awaits, ← same) at p.1) c.write_to_call.ensures.memory

pub returns-in-Call-clause-of_no_call : goal.returns-in-Call-clause-of_no_call
returns-in-Call-clause-of_no_call g c = λ head none.
    let queues = c.self.inside.queues.queues in
    let now = c.args.self.now in
    let unique = head_unique c.args.bytes.now in
    let same = c.in-Ok.ensures.ok.3 in
    let at : waiting queues c.in-Ok.head.unique ≡ Some c.in-Some.purpose.now =
    sym c.waiting.ensures ∙ ap option_copied c.in-Some.is in
    let waits : waiting now.queues unique ≡ Some (Call c.in-Call.call) =
    rw (← c.self.view_is) (ap (waiting queues) (sym same) ∙ at ∙ ap Some c.in-Call.is) in
    let awaits = awaited_even now unique (even_test c.in-Ok.head.unique unique same c.if-head-eq1.false)
    (Some (Call c.in-Call.call)) waits in
    absurd (awaited_of_call (get now.vfs.calls c.in-Call.call) (rw awaits at none))

pub returns-in-Call-clause-unawaited : goal.returns-in-Call-clause-unawaited
returns-in-Call-clause-unawaited g c = λ head none.
    let queues = c.self.inside.queues.queues in
    let now = c.args.self.now in
    let unique = head_unique c.args.bytes.now in
    let same = c.in-Ok.ensures.ok.3 in
    let at : waiting queues c.in-Ok.head.unique ≡ Some c.in-Some.purpose.now =
    sym c.waiting.ensures ∙ ap option_copied c.in-Some.is in
    let waits : waiting now.queues unique ≡ Some (Call c.in-Call.call) =
    rw (← c.self.view_is) (ap (waiting queues) (sym same) ∙ at ∙ ap Some c.in-Call.is) in
    let awaits = awaited_even now unique (even_test c.in-Ok.head.unique unique same c.if-head-eq1.false)
    (Some (Call c.in-Call.call)) waits in
    let served : ServesCalls now.vfs.calls now.queues = rw (← c.self.view_is) c.self.invariant.served in
    absurd (call_awaits (get now.vfs.calls c.in-Call.call) (read_unanswered served unique c.in-Call.call waits)
    (rw awaits at none))
