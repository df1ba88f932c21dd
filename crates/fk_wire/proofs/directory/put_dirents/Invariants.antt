use Rattle.std.proofs.Common.{◌≡◌, ◌≤◌, ◌+◌, ◌++◌, vec_len, vec_capacity}
use Rattle.fk_wire.specs.Fields.{InRange, sizes, spellings}
use Rattle.fk_wire.specs.Dirents.{dirents, HaveRecordNames}
use Rattle.fk_wire.specs.Records.{records_in}
use Rattle.fk_wire.proofs.directory.put_dirents.Given as goal

abbrev pub invariant-records : goal.invariant-records
invariant-records g l =
    (goal.iterator-records g).can_next l.dirent-iterator
    × (goal.iterator-records g).is_finite l.dirent-iterator
    × (l.out.items ++ spellings (dirents (records_in l.dirent-iterator)) ≡ l.fn.out.items
    ++ spellings (dirents (records_in l.fn.records)))
    × (vec_len l.out + sizes (dirents (records_in l.dirent-iterator)) ≤ vec_capacity l.out)
    × (InRange (dirents (records_in l.dirent-iterator)) → InRange (dirents (records_in l.fn.records)))
    × HaveRecordNames (records_in l.dirent-iterator)
