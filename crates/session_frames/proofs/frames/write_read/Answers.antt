use Rattle.std.proofs.Common.{◌++◌, ◌∙◌, ap, inl}
use Rattle.fuse_protocol.specs.Requests.{request_message}
use Rattle.fuse_sessions.specs.RequestActs.{request_acts}
use Rattle.session_frames.proofs.Writes.{on_ok}
use Rattle.session_frames.proofs.frames.write_read.Goals as goal

pub returns-in-Ok : goal.returns-in-Ok
returns-in-Ok g c =
    let o = c.in-Ok.request.head.opcode in
    let m = request_message c.in-Ok.request in
    let is = rw c.in-Ok.is at c.read_request-read.ensures.ok in
    on_ok _ _ c.write_request.result
    (λ e. inl ((o, m), is, e ∙ ap (λ l. l ++ request_acts c.args.known.now.has_resent o m) c.requires)) c.write_request.ensures
