use Rattle.std.proofs.Common.{◌++◌}
use Rattle.std.specs.Prelude.{codes, decimal}
use Rattle.std.specs.Io.KnownBytes.{Appends}
use Rattle.fk_wire.specs.Opcodes.{code_of}
use Rattle.std.proofs.KnownBytes.{Appends-trans}
use Rattle.fuse_text.proofs.Writes.{OnOk-map}
use Rattle.fw_vectors.specs.Vectors.{frame_members}
use Rattle.fw_vectors.proofs.vector_line.write_reply_start.Goals as goal

pub returns : goal.returns
returns g c =
    let now = g.W.Write.contents in
    let head = codes "{\"direction\":\"reply\",\"opcode\":" ++ decimal (code_of c.args.opcode) in
    let first : Appends (now c.args.out.now) (now c.write.new.self) head =
    rw c.code-number.ensures at c.in_ok-write.ensures.bytes in
    OnOk-map _ _ c.write_frame_members.result (λ wrote. Appends-trans (now c.args.out.now) (now c.write.new.self)
    (now c.write_frame_members.new.out) head (frame_members c.args.minor c.args.frame.now) first wrote)
    c.write_frame_members.ensures
