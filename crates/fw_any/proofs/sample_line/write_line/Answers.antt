use Rattle.std.proofs.Common.{inl, inr}
use Rattle.fuse_text.proofs.Writes.{OnOk-map}
use Rattle.fw_any.proofs.sample_line.write_line.Goals as goal

pub returns-in-Request : goal.returns-in-Request
returns-in-Request g c =
    OnOk-map _ _ c.write_request_line.result (λ line. (line.0, (c.as_slice-frame.result.now, inl line.1), line.2))
    c.write_request_line.ensures

pub returns-in-Reply : goal.returns-in-Reply
returns-in-Reply g c =
    OnOk-map _ _ c.write_reply_line.result (λ line.
    (line.0, (c.as_slice-frame.result.now, inr (c.args.sample.now.opcode, c.in-Reply.asked, line.1)), line.2))
    c.write_reply_line.ensures
