use Rattle.std.specs.Prelude.{codes}
use Rattle.fk_wire.specs.Records.{pluses_in}
use Rattle.fuse_text.proofs.Writes.{Appends-three, OnOk-map}
use Rattle.fw_vectors.specs.Members.{direntplus_object, comma_list}
use Rattle.fw_vectors.proofs.reply_members.write_listing_plus.Goals as goal

pub returns : goal.returns
returns g c =
    let now = g.W.Write.contents in
    OnOk-map _ _ c.write_all-2.result (λ wrote. Appends-three (now c.args.out.now) (now c.write_all.new.self)
    (now c.write_pluses.new.out) (now c.write_all-2.new.self) (codes "\"records\":[")
    (comma_list direntplus_object (pluses_in c.args.records)) (codes "]")
    c.in_ok-write_all.ensures.bytes c.in_ok-write_pluses.ensures wrote) c.write_all-2.ensures.bytes
