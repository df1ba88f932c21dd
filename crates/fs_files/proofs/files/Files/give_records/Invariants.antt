use Rattle.std.proofs.Common.{◌≡◌, ◌≤◌, ◌+◌, false, length, map, vec_capacity}
use Rattle.fuse_spec.specs.Files.Operations.{files_listed}
use Rattle.fs_files.specs.Listed.{listed_in, pair_listed}
use Rattle.fs_files.proofs.EntriesStay.{WillBePut}
use Rattle.fs_files.proofs.NumberedNames.{StillToGive}
use Rattle.fs_files.proofs.files.Files.give_records.Given as goal

abbrev pub invariant-records : goal.invariant-records
invariant-records g l =
    (goal.iterator-records g).can_next l.record-iterator
    × (goal.iterator-records g).is_finite l.record-iterator
    × StillToGive l.fn.self.tree l.fn.self.nodes (files_listed
    (map (pair_listed 0) (listed_in l.fn.records))) l.self.nodes l.self.node_room (listed_in l.record-iterator)
    × (l.self.tree ≡ l.fn.self.tree)
    × (l.self.handles ≡ l.fn.self.handles)
    × (l.has_dots ≡ false → WillBePut l.fn.self.tree l.self.nodes (listed_in l.fn.records) (listed_in l.record-iterator)
    l.entries.items l.file_entries.items)
    × (length l.entries.items + length (listed_in l.record-iterator) ≤ vec_capacity l.entries)
    × (length l.file_entries.items + length (listed_in l.record-iterator) ≤ vec_capacity l.file_entries)
    × (vec_capacity l.fn.entries ≤ vec_capacity l.entries)
    × (vec_capacity l.fn.file_entries ≤ vec_capacity l.file_entries)
