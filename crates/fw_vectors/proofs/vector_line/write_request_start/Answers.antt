use Rattle.std.specs.Prelude.{codes}
use Rattle.fuse_text.proofs.Writes.{Appends-three, OnOk-map}
use Rattle.fw_vectors.specs.Vectors.{frame_members, opcode_word}
use Rattle.fw_vectors.proofs.vector_line.write_request_start.Goals as goal

pub returns : goal.returns
returns g c =
    let now = g.W.Write.contents in
    let frame = c.args.frame.now in
    OnOk-map _ _ c.write_frame_members.result (λ wrote. Appends-three (now c.args.out.now) (now c.write_all.new.self)
    (now c.write_opcode_word.new.out) (now c.write_frame_members.new.out)
    (codes "{\"direction\":\"request\",\"opcode\":") (opcode_word frame) (frame_members c.args.minor frame)
    c.in_ok-write_all.ensures.bytes c.in_ok-write_opcode_word.ensures wrote) c.write_frame_members.ensures
