use Rattle.std.proofs.Common.{◌≡◌, true, false, true≢false, refl, sym, ap, ◌∙◌}
use Rattle.std.specs.Prelude.{is_some}
use Rattle.fk_wire.specs.declared.opcode.Opcode.TheVariants as op
use Rattle.fuse_spec.specs.Kernel.QueueCalls.{waiting}
use Rattle.fuse_spec.specs.Kernel.Replies.{interrupt_replied}
use Rattle.fuse_frames.specs.ReplyDecoding.{decoded_wire_of}
use Rattle.fuse_frames.proofs.ReplyCases.{says_to_interrupt}
use Rattle.fuse_frames.proofs.Sayings.{says_one}
use Rattle.fk_kernel.proofs.Evicted.{copied_is}
use Rattle.fk_kernel.proofs.RepliesTaken.{interrupt_done}
use Rattle.fk_kernel.proofs.kernel.KernelOf.write_to_interrupt.Goals as goal

pub returns-in_default-clause-said : goal.returns-in_default-clause-said
returns-in_default-clause-said g c = λ there wire says. absurd (c.in_default.ensures.none wire says)

pub returns-in-Failed-clause-said : goal.returns-in-Failed-clause-said
returns-in-Failed-clause-said g c = λ there wire says.
    let said = decoded_wire_of c.in-Some.said in
    ap (interrupt_replied c.args.self.now c.args.original)
    (says_one op.Interrupt c.args.bytes.now wire said says c.in-Some.ensures.said ∙ ap decoded_wire_of c.in-Failed.is)
    ∙ rw c.interrupt_failed.ensures refl

pub returns-in_default-said-clause-said : goal.returns-in_default-said-clause-said
returns-in_default-said-clause-said g c = λ there wire says.
    let bytes = c.args.bytes.now in
    let said = decoded_wire_of c.in-Some.said in
    ap (interrupt_replied c.args.self.now c.args.original)
    (says_one op.Interrupt bytes wire said says c.in-Some.ensures.said)
    ∙ interrupt_done c.args.self.now c.args.original c.in-Some.said
    (says_to_interrupt bytes said c.in-Some.ensures.said) c.in_default-said.not-Failed

pub returns-in_default-clause-unawaited : goal.returns-in_default-clause-unawaited
returns-in_default-clause-unawaited g c = λ none.
    let there : is_some (waiting c.args.self.now.queues c.args.original) ≡ true = rw (← c.self.view_is)
    (ap is_some (sym c.waiting.ensures) ∙ copied_is c.waiting.result ∙ c.if-is_none.ensures) in
    absurd (true≢false (sym there ∙ ap is_some none))

pub returns-in-Failed-clause-unawaited : goal.returns-in-Failed-clause-unawaited
returns-in-Failed-clause-unawaited g c = λ none.
    let there : is_some (waiting c.args.self.now.queues c.args.original) ≡ true = rw (← c.self.view_is)
    (ap is_some (sym c.waiting.ensures) ∙ copied_is c.waiting.result ∙ c.if-is_none.ensures) in
    absurd (true≢false (sym there ∙ ap is_some none))

pub returns-in_default-said-clause-unawaited : goal.returns-in_default-said-clause-unawaited
returns-in_default-said-clause-unawaited g c = λ none.
    let there : is_some (waiting c.args.self.now.queues c.args.original) ≡ true = rw (← c.self.view_is)
    (ap is_some (sym c.waiting.ensures) ∙ copied_is c.waiting.result ∙ c.if-is_none.ensures) in
    absurd (true≢false (sym there ∙ ap is_some none))

pub returns-in-Failed-clause-unsaid : goal.returns-in-Failed-clause-unsaid
returns-in-Failed-clause-unsaid g c = λ there none. absurd (none _ c.in-Some.ensures.said)

pub returns-in_default-said-clause-unsaid : goal.returns-in_default-said-clause-unsaid
returns-in_default-said-clause-unsaid g c = λ there none. absurd (none _ c.in-Some.ensures.said)

pub returns-then-is_none-clause-said : goal.returns-then-is_none-clause-said
returns-then-is_none-clause-said g c = λ there wire says.
    let none : is_some (waiting c.args.self.now.queues c.args.original) ≡ false = rw (← c.self.view_is)
    (ap is_some (sym c.waiting.ensures) ∙ copied_is c.waiting.result ∙ c.if-is_none.ensures) in
    absurd (true≢false (sym there ∙ none))

pub returns-then-is_none-clause-unsaid : goal.returns-then-is_none-clause-unsaid
returns-then-is_none-clause-unsaid g c = λ there unsaid.
    let none : is_some (waiting c.args.self.now.queues c.args.original) ≡ false = rw (← c.self.view_is)
    (ap is_some (sym c.waiting.ensures) ∙ copied_is c.waiting.result ∙ c.if-is_none.ensures) in
    absurd (true≢false (sym there ∙ none))
