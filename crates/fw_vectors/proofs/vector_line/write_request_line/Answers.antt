use Rattle.std.proofs.Common.{◌++◌, refl}
use Rattle.std.specs.Prelude.{codes}
use Rattle.fuse_text.proofs.Writes.{Appends-three, OnOk-map}
use Rattle.fw_vectors.specs.Vectors.{frame_members, opcode_word, request_vector_line}
use Rattle.fw_vectors.proofs.vector_line.write_request_line.Goals as goal

pub returns : goal.returns
returns g c =
    let now = g.W.Write.contents in
    let minor = c.args.minor in
    let frame = c.args.frame.now in
    let verdict = c.in_ok-write_request_verdict.ensures in
    OnOk-map _ _ c.write_all.result (λ wrote. (
      request_vector_line minor frame verdict.0,
      (verdict.0, verdict.1, refl),
      Appends-three (now c.args.out.now) (now c.write_request_start.new.out) (now c.write_request_verdict.new.out)
          (now c.write_all.new.self)
          (codes "{\"direction\":\"request\",\"opcode\":" ++ opcode_word frame ++ frame_members minor frame) verdict.0
          (codes "}\n") c.in_ok-write_request_start.ensures verdict.2 wrote,
    )) c.write_all.ensures.bytes
