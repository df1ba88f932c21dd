use Rattle.std.proofs.Common.{ℕ, [], ◌∷◌, ◌∙◌, refl, subst}
use Rattle.fuse_device.specs.Transfers.{sent, unsent}
use Rattle.fuse_frames.specs.ReplyTies.{message_of}
use Rattle.fs_serve.specs.Sending.{IsSettled, framed_of, settled, unsettled}
use Rattle.fs_serve.proofs.FilledReplies.{filled_frame, spelled}
use Rattle.fs_serve.proofs.Sendings.{is_settled}
use Rattle.fs_serve.proofs.serving.deliver.Goals as goal

pub filled-reply-requires : goal.filled-reply-requires
filled-reply-requires g c =
    let (o, frame) = c.bytes.ensures.written in
    let asked = c.requires o c.bytes.result.now frame in
    (message_of (framed_of c.args.sent.now), spelled c.args.opcode c.bytes.result.now (framed_of c.args.sent.now) asked)

pub returns-in-Ok : goal.returns-in-Ok
returns-in-Ok g c =
    let copy = c.args.sent.now in
    let (o, frame) = c.bytes.ensures.written in
    let asked = c.requires o c.bytes.result.now frame in
    let is = c.as_slice.ensures.value
    ∙ c.filled-reply.ensures (message_of (framed_of copy)) (spelled c.args.opcode c.bytes.result.now (framed_of copy) asked) in
    let framed = filled_frame c.args.opcode c.bytes.result.now c.as_slice.result.now (framed_of copy) asked is in
    let after = is_settled c.settle-settled.result c.args.server.now c.settle-settled.new.self c.number.result c.in-Ok.result c.settle-settled.ensures.refused c.settle-settled.ensures.effect in (
      sent c.as_slice.result.now c.in-Ok.result ∷ [],
      c.in-Ok.ensures.result,
      settled c.args.opcode c.as_slice.result.now framed c.in-Ok.result c.settle-settled.new.self
          (subst (λ (n : ℕ). IsSettled c.args.server.now n c.in-Ok.result c.settle-settled.new.self) c.number.ensures after),
      refl,
    )

pub returns-in-Err : goal.returns-in-Err
returns-in-Err g c =
    let copy = c.args.sent.now in
    let (o, frame) = c.bytes.ensures.written in
    let asked = c.requires o c.bytes.result.now frame in
    let is = c.as_slice.ensures.value
    ∙ c.filled-reply.ensures (message_of (framed_of copy)) (spelled c.args.opcode c.bytes.result.now (framed_of copy) asked) in (
      unsent c.as_slice.result.now c.in-Err.end ∷ [],
      c.in-Err.ensures.end,
      unsettled c.args.opcode c.as_slice.result.now
          (filled_frame c.args.opcode c.bytes.result.now c.as_slice.result.now (framed_of copy) asked is) c.in-Err.end,
      refl,
    )
