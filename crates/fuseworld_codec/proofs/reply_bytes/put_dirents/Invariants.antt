use Rattle.std.proofs.Common.{◌≡◌, ◌+◌, ◌++◌, length, take}
use Rattle.fk_wire.specs.Fields.{InRange, sizes, spellings}
use Rattle.fk_wire.specs.Dirents.{HaveRecordNames, dirents}
use Rattle.fk_wire.specs.Records.{records_in}
use Rattle.fuseworld_codec.proofs.reply_bytes.put_dirents.Given as goal

abbrev pub invariant-records : goal.invariant-records
invariant-records l =
    (goal.iterator-records).can_next l.dirent-iterator
    × (goal.iterator-records).is_finite l.dirent-iterator
    × (take l.place l.out ++ spellings (dirents (records_in l.dirent-iterator)) ≡ take l.fn.place l.fn.out
    ++ spellings (dirents (records_in l.fn.records)))
    × (l.place + sizes (dirents (records_in l.dirent-iterator)) ≡ l.fn.place + sizes
    (dirents (records_in l.fn.records)))
    × (length l.out ≡ length l.fn.out)
    × (InRange (dirents (records_in l.dirent-iterator)) → InRange (dirents (records_in l.fn.records)))
    × HaveRecordNames (records_in l.dirent-iterator)
