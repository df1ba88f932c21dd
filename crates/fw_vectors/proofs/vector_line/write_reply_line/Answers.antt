use Rattle.std.proofs.Common.{◌++◌, refl}
use Rattle.std.specs.Prelude.{codes, decimal}
use Rattle.fk_wire.specs.Opcodes.{code_of}
use Rattle.fuse_text.proofs.Writes.{Appends-three, OnOk-map}
use Rattle.fw_vectors.specs.Vectors.{frame_members, reply_line}
use Rattle.fw_vectors.proofs.vector_line.write_reply_line.Goals as goal

pub returns : goal.returns
returns g c =
    let now = g.W.Write.contents in
    let minor = c.args.minor in
    let opcode = c.args.opcode in
    let frame = c.args.frame.now in
    let verdict = c.in_ok-write_reply_verdict.ensures in
    OnOk-map _ _ c.write_all.result (λ wrote. (
      reply_line minor opcode frame verdict.0,
      (verdict.0, verdict.1, refl),
      Appends-three (now c.args.out.now) (now c.write_reply_start.new.out) (now c.write_reply_verdict.new.out)
          (now c.write_all.new.self)
          (codes "{\"direction\":\"reply\",\"opcode\":" ++ decimal (code_of opcode) ++ frame_members minor frame) verdict.0
          (codes "}\n") c.in_ok-write_reply_start.ensures verdict.2 wrote,
    )) c.write_all.ensures.bytes
