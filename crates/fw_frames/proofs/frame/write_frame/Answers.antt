use Rattle.std.proofs.Common.{inl}
use Rattle.fk_wire.specs.Requests.{request_message}
use Rattle.fuse_text.proofs.Writes.{OnOk-map}
use Rattle.fw_frames.proofs.frame.write_frame.Goals as goal

pub returns-in-Ok : goal.returns-in-Ok
returns-in-Ok g c =
    OnOk-map _ _ c.write_request.result (λ wrote. inl
    (request_message c.in-Ok.request, c.in-Ok.ensures.ok, wrote)) c.write_request.ensures
