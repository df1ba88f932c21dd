use Rattle.std.proofs.Common.{inl}
use Rattle.fk_wire.specs.Replies.{reply_message}
use Rattle.fuse_text.proofs.Writes.{OnOk-map}
use Rattle.fw_frames.proofs.reply.write_frame.Goals as goal

pub returns-in-Ok : goal.returns-in-Ok
returns-in-Ok g c =
    OnOk-map _ _ c.write_reply.result (λ wrote. inl
    (reply_message c.in-Ok.reply, c.in-Ok.ensures.ok, wrote)) c.write_reply.ensures
