use Rattle.std.proofs.Common.{sym, ap, ◌∙◌}
use Rattle.std.specs.Prelude.{ℤ}
use Rattle.fk_wire.specs.Replies.{reply_content}
use Rattle.fuse_frames.specs.ReplyTies.{wire_said}
use Rattle.fuse_frames.proofs.Sayings.{says_read, same_error}
use Rattle.fuse_frames.proofs.reply_decoding.decode_reply.Goals as goal

pub returns-in-Some-clause-said : goal.returns-in-Some-clause-said
returns-in-Some-clause-said c =
    let head = c.args.head in
    let content = reply_content c.in-Ok.body in
    let same = same_error head.error c.in-Ok.ensures.ok.1 in
    says_read c.args.opcode c.args.bytes.now head c.in-Ok.body _ c.in-Ok.ensures.ok
    (ap (λ (z : ℤ). wire_said z content) (sym same) ∙ c.in-Some.ensures content)

pub returns-clause-said : goal.returns-clause-said
returns-clause-said c =
    let head = c.args.head in
    let content = reply_content c.in-Ok.body in
    let none = sym (same_error head.error c.in-Ok.ensures.ok.1) ∙ c.in_default-failure.ensures in
    says_read c.args.opcode c.args.bytes.now head c.in-Ok.body _ c.in-Ok.ensures.ok
    (ap (λ (z : ℤ). wire_said z content) none ∙ c.decode_body.ensures.wire)
