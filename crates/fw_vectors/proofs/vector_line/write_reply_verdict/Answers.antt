use Rattle.std.proofs.Common.{inl, refl}
use Rattle.fk_wire.specs.Replies.{reply_message}
use Rattle.fuse_text.proofs.Writes.{OnOk-map}
use Rattle.fw_vectors.specs.Vectors.{reply_verdict}
use Rattle.fw_vectors.proofs.vector_line.write_reply_verdict.Goals as goal

pub returns-in-Ok : goal.returns-in-Ok
returns-in-Ok g c =
    let message = reply_message c.in-Ok.reply in
    OnOk-map _ _ c.write_reply.result (λ wrote. (reply_verdict message, inl (message, c.in-Ok.ensures.ok, refl), wrote))
    c.write_reply.ensures
