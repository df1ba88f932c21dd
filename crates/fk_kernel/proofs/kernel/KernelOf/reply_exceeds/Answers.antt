use Rattle.std.proofs.Common.{◌≡◌, Bool, false, true, ap, sym, ◌∙◌}
use Rattle.std.specs.Prelude.{◌||◌}
use Rattle.fuse_spec.specs.Kernel.Replies.{reply_written}
use Rattle.fuse_frames.specs.ReplyDecoding.{decoded_wire_of}
use Rattle.fuse_spec.specs.Kernel.Refusals.{is_counted_out, is_kernel_past_end}
use Rattle.fk_nodes.proofs.Outs.{or_none, or_true}
use Rattle.fk_kernel.proofs.CountsAfterReply.{goes_nodes}
use Rattle.fk_kernel.proofs.kernel.KernelOf.reply_exceeds.Goals as goal

pub returns-then-counts_exceed-clause-past : goal.returns-then-counts_exceed-clause-past
returns-then-counts_exceed-clause-past g c = λ past.
    let now = c.args.self.now in
    let wire = decoded_wire_of c.args.said.now in
    let after = (reply_written now c.args.unique wire).1 in
    let nodes = goes_nodes now c.args.unique c.args.call c.requires.even c.requires.waits wire c.requires.awaits in
    let out : is_counted_out after.nodes ≡ true = ap is_counted_out nodes ∙ sym c.counts_exceed.ensures ∙ c.if-counts_exceed.true in
    ap (λ (b : Bool). is_kernel_past_end after || b) out ∙ or_true (is_kernel_past_end after)

pub returns-clause-past : goal.returns-clause-past
returns-clause-past g c = λ past.
    let after = (reply_written c.args.self.now c.args.unique (decoded_wire_of c.args.said.now)).1 in
    ap (λ (b : Bool). b || is_counted_out after.nodes) (c.walk_exceeds.ensures.past past)

pub returns-clause-stays : goal.returns-clause-stays
returns-clause-stays g c = λ stays.
    let now = c.args.self.now in
    let wire = decoded_wire_of c.args.said.now in
    let after = (reply_written now c.args.unique wire).1 in
    let nodes = goes_nodes now c.args.unique c.args.call c.requires.even c.requires.waits wire c.requires.awaits in
    let none : is_counted_out after.nodes ≡ false = ap is_counted_out nodes ∙ sym c.counts_exceed.ensures ∙ c.if-counts_exceed.false in
    or_none (is_kernel_past_end after) (is_counted_out after.nodes) (c.walk_exceeds.ensures.within stays) none

pub returns-clause-counts : goal.returns-clause-counts
returns-clause-counts g c = λ stays. sym c.counts_exceed.ensures ∙ c.if-counts_exceed.false
