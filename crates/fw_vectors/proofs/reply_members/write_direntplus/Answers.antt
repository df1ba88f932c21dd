use Rattle.std.proofs.Common.{◌++◌}
use Rattle.std.specs.Prelude.{codes}
use Rattle.fk_wire.specs.Entries.{entry_content}
use Rattle.fk_wire.specs.Records.{dirent_content}
use Rattle.fuse_text.proofs.Writes.{Appends-three, OnOk-map}
use Rattle.fw_vectors.specs.Members.{dirent_object, entry_object}
use Rattle.fw_vectors.proofs.reply_members.write_direntplus.Goals as goal

pub returns : goal.returns
returns g c =
    let now = g.W.Write.contents in
    let pair = c.args.pair.now in
    OnOk-map _ _ c.write_plus_dirent.result (λ wrote. Appends-three (now c.args.out.now) (now c.write_all.new.self)
    (now c.write_entry.new.out) (now c.write_plus_dirent.new.out) (codes "{\"entry_out\":")
    (entry_object (entry_content pair.entry_out))
    (codes ",\"dirent\":" ++ dirent_object (dirent_content pair.dirent) ++ codes "}")
    c.in_ok-write_all.ensures.bytes c.in_ok-write_entry.ensures wrote) c.write_plus_dirent.ensures
