use Rattle.std.proofs.Common.{inl, inr}
use Rattle.fuse_text.proofs.Writes.{OnOk-map}
use Rattle.fw_vectors.proofs.print.write_line.Goals as goal

pub returns-in-Request : goal.returns-in-Request
returns-in-Request g c =
    let minor = c.args.vector.now.minor in
    let frame = c.as_slice-frame.result.now in
    OnOk-map _ _ c.write_request_line.result (λ line. (line.0, (minor, frame, inl line.1), line.2))
    c.write_request_line.ensures

pub returns-in-Reply : goal.returns-in-Reply
returns-in-Reply g c =
    let minor = c.args.vector.now.minor in
    let frame = c.as_slice-frame.result.now in
    OnOk-map _ _ c.write_reply_line.result (λ line.
    (line.0, (minor, frame, inr (c.in-Reply.opcode, line.1)), line.2)) c.write_reply_line.ensures
