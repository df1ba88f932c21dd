use Rattle.std.proofs.Common.{◌++◌, append_assoc}
use Rattle.std.specs.Prelude.{codes, decimal}
use Rattle.std.specs.Fmt.{signed_decimal}
use Rattle.std.specs.Io.KnownBytes.{Appends}
use Rattle.fuse_text.proofs.Writes.{Appends-three, OnOk-map}
use Rattle.fw_vectors.proofs.vector_line.write_reply_head.Goals as goal

pub returns : goal.returns
returns g c =
    let now = g.W.Write.contents in
    let message = c.args.reply.now in
    let head = codes "\"verdict\":\"ok\",\"fields\":{\"unique\":\"" ++ decimal message.unique ++ codes "\",\"error\":\"" in
    let first : Appends (now c.args.out.now) (now c.write.new.self) head = simp append_assoc c.in_ok-write.ensures.bytes in
    OnOk-map _ _ c.write_all.result (λ wrote. Appends-three (now c.args.out.now) (now c.write.new.self)
    (now c.write_error.new.out) (now c.write_all.new.self) head (signed_decimal message.error)
    (codes "\",\"body\":{") first c.in_ok-write_error.ensures wrote) c.write_all.ensures.bytes
