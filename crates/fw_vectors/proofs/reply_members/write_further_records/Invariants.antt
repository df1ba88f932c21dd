use Rattle.fk_wire.specs.Records.{records_in}
use Rattle.fw_vectors.specs.Members.{further, dirent_object}
use Rattle.fuse_text.proofs.Writes.{Left}
use Rattle.fw_vectors.proofs.reply_members.write_further_records.Given as goal

abbrev pub invariant-loop-dirent : goal.invariant-loop-dirent
invariant-loop-dirent g l =
    (goal.iterator-loop-dirent g).can_next l.dirent-iterator
    × (goal.iterator-loop-dirent g).is_finite l.dirent-iterator
    × Left (further dirent_object) (g.W.Write.contents l.initial.out) (g.W.Write.contents l.out) (records_in l.fn.records) (records_in l.dirent-iterator)
