use Rattle.std.proofs.Common.{◌≡◌, true, refl, ap, ◌∙◌}
use Rattle.std.specs.Prelude.{is_some}
use Rattle.fk_wire.specs.declared.opcode.Opcode.TheVariants as op
use Rattle.fuse_spec.specs.Kernel.QueueCalls.{waiting}
use Rattle.fk_kernel.specs.AwaitedReplies.{wrong_body}
use Rattle.fk_kernel.proofs.Nodes.{answered_is}
use Rattle.fk_kernel.proofs.Replied.{release_is}
use Rattle.fuse_frames.proofs.ReplyCases.{says_to_release}
use Rattle.fuse_frames.proofs.Sayings.{says_read, says_nothing}
use Rattle.fk_kernel.proofs.StillSound.{more_queued}
use Rattle.fk_kernel.proofs.Served.{fewer_answered}
use Rattle.fk_kernel.proofs.kernel.KernelOf.write_to_release.Goals as goal

pub invariant_of-self : goal.invariant_of-self
invariant_of-self g c = more_queued c.self.invariant c.answer-kept.ensures.state (fewer_answered _ _)
    c.answer-kept.ensures.room

pub invariant_of-self-2 : goal.invariant_of-self-2
invariant_of-self-2 g c = more_queued c.self.invariant c.answer-kept.ensures.state (fewer_answered _ _)
    c.answer-kept.ensures.room

pub returns-in_default-clause-said : goal.returns-in_default-clause-said
returns-in_default-clause-said g c = λ wire says. absurd
    (says_nothing op.Release c.args.bytes.now c.args.head c.read_reply_body.result c.in_default.field-0 c.in_default.is c.read_reply_body.ensures.only wire says)

pub returns-in_default-clause-unsaid : goal.returns-in_default-clause-unsaid
returns-in_default-clause-unsaid g c = λ none.
    let s = c.self.inside.queues.queues in
    let opened = c.requires.waits.0 in
    let waits : is_some (waiting s c.args.head.unique) ≡ true = rw (← c.self.view_is) at (ap is_some c.requires.waits.1) in
    release_is c.args.self.now c.args.head.unique opened c.requires.even c.requires.waits.1 wrong_body ∙ rw
    (← c.self.view_is, c.answer-kept.ensures.state, answered_is s c.args.head.unique waits) refl

pub returns-clause-said : goal.returns-clause-said
returns-clause-said g c = λ wire says.
    let s = c.self.inside.queues.queues in
    let opened = c.requires.waits.0 in
    let waits : is_some (waiting s c.args.head.unique) ≡ true = rw (← c.self.view_is) at (ap is_some c.requires.waits.1) in
    release_is c.args.self.now c.args.head.unique opened c.requires.even c.requires.waits.1 wire
    ∙ rw (
      says_to_release c.args.bytes.now wire says,
      ← c.self.view_is,
      c.answer-kept.ensures.state,
      answered_is s c.args.head.unique waits,
    ) refl

pub returns-clause-unsaid : goal.returns-clause-unsaid
returns-clause-unsaid g c = λ none. absurd (none _
    (says_read op.Release c.args.bytes.now c.args.head c.in-Ok.field-0 _ c.in-Ok.ensures.ok refl))
