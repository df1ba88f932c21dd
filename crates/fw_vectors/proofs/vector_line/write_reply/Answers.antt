use Rattle.std.specs.Prelude.{codes}
use Rattle.fk_wire.specs.Replies.{reply_content}
use Rattle.fuse_text.proofs.Writes.{Appends-three, OnOk-map}
use Rattle.fw_vectors.specs.Members.{reply_members}
use Rattle.fw_vectors.specs.Vectors.{reply_start}
use Rattle.fw_vectors.proofs.vector_line.write_reply.Goals as goal

pub returns : goal.returns
returns g c =
    let now = g.W.Write.contents in
    let message = c.args.reply.now in
    OnOk-map _ _ c.write_all.result (λ wrote. Appends-three (now c.args.out.now) (now c.write_reply_head.new.out)
    (now c.write_reply_members.new.out) (now c.write_all.new.self) (reply_start message.unique message.error)
    (reply_members (reply_content message.body)) (codes "}}") c.in_ok-write_reply_head.ensures
    c.in_ok-write_reply_members.ensures wrote) c.write_all.ensures.bytes
