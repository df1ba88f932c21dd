use Rattle.std.proofs.Common.{◌≡◌, ℕ, false, ap, sym, subst, ◌∙◌}
use Rattle.fuse_spec.specs.Files.Operations.{operation_of}
use Rattle.fuse_spec.specs.Files.Operations.{Operation}
use Rattle.fuse_spec.specs.Values.Maps.{get}
use Rattle.fuse_spec.specs.Kernel.Messages.{WireReply, asks}
use Rattle.fuse_spec.specs.Kernel.Replies.{goes_with, reply_written}
use Rattle.fuse_spec.specs.Calls.Vfs.{using, asked}
use Rattle.fuse_spec.specs.declared.Opened.{Opened}
use Rattle.fuse_frames.specs.RequestTies.{asked_opcode}
use Rattle.fk_syscalls.specs.States.{StandsAt}
use Rattle.fuse_spec.specs.Kernel.Refusals.{is_counted_out, is_kernel_past_end}
use Rattle.fk_nodes.proofs.Outs.{or_none}
use Rattle.fuse_frames.specs.ReplyDecoding.{decoded_wire_of}
use Rattle.fk_kernel.specs.AwaitedReplies.{Says, reply_to, awaited_by_call, wrong_body_to}
use Rattle.fk_kernel.proofs.CountsAfterReply.{wrong_nodes}
use Rattle.fk_kernel.proofs.PastEnds.{passes, said_passes, none_passes, wrong_to_call}
use Rattle.fk_kernel.proofs.Replied.{ends_over, judged_op}
use Rattle.fk_kernel.proofs.CountersInRange.{wrong_within}
use Rattle.fk_kernel.proofs.kernel.KernelOf.reply_to_call.Goals as goal

pub returns-then-unique_overflows-clause-past : goal.returns-then-unique_overflows-clause-past
returns-then-unique_overflows-clause-past g c =
    let now = c.args.self.now in
    let state = c.args.state.now in
    let operation = operation_of (λ s. s.now) c.asks.result in
    let here = c.requires.unanswered in
    let awaits : awaited_by_call (get now.vfs.calls c.args.call) ≡ reply_to (asked_opcode (asks operation)) =
    ap awaited_by_call here ∙ ap (λ (o : Operation ℕ Opened). reply_to (asked_opcode (asks o)))
    (sym c.asks.ensures.operation) in
    let p = c.unique_overflows.ensures.past c.if-unique_overflows.true in
    let same : state ≡ using p.open_call p.operation = cc (here, p.is) in
    let one : operation ≡ p.operation = c.asks.ensures.operation ∙ ap asked same in
    let stands : StandsAt p.operation (using p.open_call p.operation) =
    subst (λ (o : Operation ℕ Opened). StandsAt o (using p.open_call p.operation)) one
    (subst (StandsAt operation) same c.asks.ensures.stands) in
    record {
      opcode = asked_opcode (asks operation);
      judged = judged_op operation;
      awaits = awaits;
      past = λ wire means. ends_over now c.args.head.unique c.args.call c.requires.even c.requires.waits p stands wire;
    }

pub returns-then-reply_exceeds-clause-past : goal.returns-then-reply_exceeds-clause-past
returns-then-reply_exceeds-clause-past g c =
    let now = c.args.self.now in
    let operation = operation_of (λ s. s.now) c.asks.result in
    let awaits : awaited_by_call (get now.vfs.calls c.args.call) ≡ reply_to (asked_opcode (asks operation)) =
    ap awaited_by_call c.requires.unanswered ∙ ap (λ (o : Operation ℕ Opened). reply_to (asked_opcode (asks o)))
    (sym c.asks.ensures.operation) in
    rw awaits (passes now c.args.head.unique c.args.bytes.now (asked_opcode (asks operation)) (judged_op operation)
    (decoded_wire_of c.in-Some.said) c.in-Some.ensures.said.says (c.reply_exceeds.ensures.past c.if-reply_exceeds.true))

pub returns-else-reply_exceeds-clause-stays : goal.returns-else-reply_exceeds-clause-stays
returns-else-reply_exceeds-clause-stays g c =
    let now = c.args.self.now in
    let operation = operation_of (λ s. s.now) c.asks.result in
    let awaits : awaited_by_call (get now.vfs.calls c.args.call) ≡ reply_to (asked_opcode (asks operation)) =
    ap awaited_by_call c.requires.unanswered ∙ ap (λ (o : Operation ℕ Opened). reply_to (asked_opcode (asks o)))
    (sym c.asks.ensures.operation) in
    rw awaits (said_passes now c.args.head.unique c.args.bytes.now (asked_opcode (asks operation))
    (decoded_wire_of c.in-Some.said) c.in-Some.ensures.said.says (c.reply_exceeds.ensures.stays c.if-reply_exceeds.false))

pub returns-else-reply_exceeds-clause-said : goal.returns-else-reply_exceeds-clause-said
returns-else-reply_exceeds-clause-said g c =
    let said = c.in-Some.ensures.said in
    record {
      says = subst (λ (o : Operation ℕ Opened). Says (asked_opcode (asks o)) c.args.bytes.now (decoded_wire_of c.in-Some.said))
          c.asks.ensures.operation said.says;
      awaits = record {
        operation = operation_of (λ s. s.now) c.asks.result;
        state = c.args.state.now;
        at = c.requires.unanswered;
        stands = c.asks.ensures.stands;
        goes = said.goes;
      };
      day = said.day;
      within = c.reply_exceeds.ensures.within c.if-reply_exceeds.false;
      counts = c.reply_exceeds.ensures.counts c.if-reply_exceeds.false;
    }

pub returns-in-None-clause-stays : goal.returns-in-None-clause-stays
returns-in-None-clause-stays g c =
    let now = c.args.self.now in
    let state = c.args.state.now in
    let operation = operation_of (λ s. s.now) c.asks.result in
    let here = c.requires.unanswered in
    let same : operation ≡ asked state = c.asks.ensures.operation in
    let awaits : awaited_by_call (get now.vfs.calls c.args.call) ≡ reply_to (asked_opcode (asks operation)) =
    ap awaited_by_call here ∙ ap (λ (o : Operation ℕ Opened). reply_to (asked_opcode (asks o))) (sym same) in
    let ends = c.unique_overflows.ensures.within c.if-unique_overflows.false in
    let stays = λ (wire : WireReply) (other : goes_with (asked state) wire ≡ false). or_none
    (is_kernel_past_end (reply_written now c.args.head.unique wire).1) (is_counted_out (reply_written now c.args.head.unique wire).1.nodes)
    (wrong_within now c.args.head.unique c.args.call c.requires.even c.requires.waits c.lemma_in_range.ensures ends state here wire other)
    (ap is_counted_out (wrong_nodes now c.args.head.unique c.args.call c.requires.even c.requires.waits state here wire other) ∙ c.lemma_counts_in_range.ensures.none_out) in
    rw awaits
    (none_passes now c.args.head.unique c.args.bytes.now (asked_opcode (asks operation))
    (λ wire says. stays wire (subst (λ (o : Operation ℕ Opened). goes_with o wire ≡ false) same
    (c.in-None.ensures.none wire says)))
    (stays (wrong_body_to (asked_opcode (asks operation)))
    (subst (λ (o : Operation ℕ Opened). goes_with o (wrong_body_to (asked_opcode (asks operation))) ≡ false) same
    (wrong_to_call operation))))
