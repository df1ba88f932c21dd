use Rattle.std.proofs.Common.{inl, refl}
use Rattle.fk_wire.specs.Requests.{request_message}
use Rattle.fuse_text.proofs.Writes.{OnOk-map}
use Rattle.fw_vectors.specs.Vectors.{request_verdict}
use Rattle.fw_vectors.proofs.vector_line.write_request_verdict.Goals as goal

pub returns-in-Ok : goal.returns-in-Ok
returns-in-Ok g c =
    let message = request_message c.in-Ok.request in
    OnOk-map _ _ c.write_request.result (λ wrote. (request_verdict message, inl (message, c.in-Ok.ensures.ok, refl), wrote))
    c.write_request.ensures
