use Rattle.std.proofs.Common.{◌≡◌, true, false, true≢false, refl, sym, ap, ◌∙◌}
use Rattle.std.specs.Prelude.{is_some}
use Rattle.fk_wire.specs.declared.opcode.Opcode.TheVariants as op
use Rattle.fuse_spec.specs.Kernel.QueueCalls.{waiting}
use Rattle.fuse_spec.specs.Kernel.Replies.{reply_written, is_agreement}
use Rattle.fuse_frames.specs.ReplyDecoding.{decoded_wire_of}
use Rattle.fk_kernel.proofs.Nodes.{still_counted, answered_is}
use Rattle.fk_kernel.proofs.Replied.{init_agreed, init_aborts, init_unsaid}
use Rattle.fuse_frames.proofs.ReplyCases.{says_to_init}
use Rattle.fuse_frames.proofs.Sayings.{says_one}
use Rattle.fk_kernel.proofs.Rooms.{still_room}
use Rattle.fk_kernel.proofs.Served.{served_less, fewer_answered}
use Rattle.fk_kernel.proofs.kernel.KernelOf.write_to_init.Goals as goal

pub invariant_of-self : goal.invariant_of-self
invariant_of-self g c =
    let old = c.self.invariant in
    rw c.answer-kept.ensures.state (record {
      numbers = old.numbers;
      idle = λ e. absurd (true≢false e);
      sorted = old.sorted;
      nodes = still_counted c.self.inside.nodes
          c.self.inside.queues.room.forgets
          c.answer-kept.new.self.room.forgets old.nodes c.answer-kept.ensures.room.forgets;
      files =
          old.files;
      releases = still_room old.releases c.answer-kept.ensures.room.requests;
      served = served_less old.served (fewer_answered c.self.inside.queues.queues c.args.head.unique);
      clock_low =
          old.clock_low;
    })

pub returns-in_default-clause-said : goal.returns-in_default-clause-said
returns-in_default-clause-said g c = λ wire says. absurd (c.in_default.ensures.none wire says)

pub returns-in_default-clause-unsaid : goal.returns-in_default-clause-unsaid
returns-in_default-clause-unsaid g c = λ none. rw c.abandon_all.ensures
    (init_unsaid c.args.self.now c.args.head.unique c.requires.even c.requires.waits)

pub returns-then-agrees-clause-said : goal.returns-then-agrees-clause-said
returns-then-agrees-clause-said g c = λ wire says.
    let k = c.args.self.now in
    let s = c.self.inside.queues.queues in
    let waits : is_some (waiting s c.args.head.unique) ≡ true = rw (← c.self.view_is) at (ap is_some c.requires.waits) in
    let agreed : is_agreement (decoded_wire_of c.in-Some.said) ≡ true = sym c.agrees.ensures ∙ c.if-agrees.true in
    ap (reply_written k c.args.head.unique) (says_one op.Init c.args.bytes.now wire
    (decoded_wire_of c.in-Some.said) says c.in-Some.ensures.said)
    ∙ init_agreed k c.args.head.unique c.requires.even c.requires.waits (decoded_wire_of c.in-Some.said)
    (says_to_init c.args.bytes.now (decoded_wire_of c.in-Some.said) c.in-Some.ensures.said) agreed
    ∙ rw (
      ← c.self.view_is,
      c.answer-kept.ensures.state,
      c.minor_agreed-self-inside.ensures,
      c.files_agreed-self-inside.ensures,
      answered_is s c.args.head.unique waits,
    ) refl

pub returns-else-agrees-clause-said : goal.returns-else-agrees-clause-said
returns-else-agrees-clause-said g c = λ wire says.
    let k = c.args.self.now in
    let other : is_agreement (decoded_wire_of c.in-Some.said) ≡ false = sym c.agrees.ensures ∙ c.if-agrees.false in
    rw c.abandon_all-else-agrees.ensures
    (ap (reply_written k c.args.head.unique) (says_one op.Init c.args.bytes.now wire
    (decoded_wire_of c.in-Some.said) says c.in-Some.ensures.said)
    ∙ init_aborts k c.args.head.unique c.requires.even c.requires.waits (decoded_wire_of c.in-Some.said)
    (says_to_init c.args.bytes.now (decoded_wire_of c.in-Some.said) c.in-Some.ensures.said) other)

pub returns-then-agrees-clause-unsaid : goal.returns-then-agrees-clause-unsaid
returns-then-agrees-clause-unsaid g c = λ none. absurd (none _ c.in-Some.ensures.said)

pub returns-else-agrees-clause-unsaid : goal.returns-else-agrees-clause-unsaid
returns-else-agrees-clause-unsaid g c = λ none. absurd (none _ c.in-Some.ensures.said)
