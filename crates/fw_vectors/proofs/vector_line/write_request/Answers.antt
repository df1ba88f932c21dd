use Rattle.std.proofs.Common.{◌++◌, append_assoc}
use Rattle.std.specs.Prelude.{codes, decimal}
use Rattle.std.specs.Io.KnownBytes.{Appends}
use Rattle.fk_wire.specs.Requests.{request_content}
use Rattle.fuse_text.proofs.Writes.{Appends-three, OnOk-map}
use Rattle.fw_vectors.specs.Members.{request_members}
use Rattle.fw_vectors.proofs.vector_line.write_request.Goals as goal

pub returns : goal.returns
returns g c =
    let now = g.W.Write.contents in
    let message = c.args.request.now in
    let head = codes "\"verdict\":\"ok\",\"fields\":{\"unique\":\"" ++ decimal message.unique ++ codes "\",\"nodeid\":\""
    ++ decimal message.nodeid ++ codes "\",\"body\":{" in
    let first : Appends (now c.args.out.now) (now c.write.new.self) head = simp append_assoc c.in_ok-write.ensures.bytes in
    OnOk-map _ _ c.write_all.result (λ wrote. Appends-three (now c.args.out.now) (now c.write.new.self)
    (now c.write_request_members.new.out) (now c.write_all.new.self) head (request_members (request_content message.body))
    (codes "}}") first c.in_ok-write_request_members.ensures wrote) c.write_all.ensures.bytes
