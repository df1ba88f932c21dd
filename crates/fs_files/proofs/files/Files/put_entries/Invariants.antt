use Rattle.std.proofs.Common.{◌≡◌, ◌≤◌, ◌+◌, ◌++◌, All, length, map, vec_capacity}
use Rattle.fuse_spec.specs.Files.Operations.{files_listed}
use Rattle.fk_wire.specs.Records.{records_in}
use Rattle.fuse_frames.specs.ReplyTies.{dirent_read}
use Rattle.fs_files.specs.Listed.{listed_in}
use Rattle.fs_files.specs.Replies.{IsListable}
use Rattle.fs_files.specs.Numbering.{entries_named, entry_named}
use Rattle.fs_files.proofs.files.Files.put_entries.Given as goal

abbrev pub invariant-records : goal.invariant-records
invariant-records g l =
    (goal.iterator-records g).can_next l.record-iterator
    × (goal.iterator-records g).is_finite l.record-iterator
    × All (IsListable l.fn.self.tree) (map dirent_read (records_in l.record-iterator))
    × (l.entries.items ++ map (entry_named l.fn.self.tree l.fn.self.nodes)
    (map dirent_read (records_in l.record-iterator)) ≡ map (entry_named l.fn.self.tree l.fn.self.nodes)
    (listed_in l.fn.records))
    × (l.file_entries.items ++ files_listed (entries_named l.fn.self.tree l.fn.self.nodes
    (map dirent_read (records_in l.record-iterator))) ≡ files_listed
    (entries_named l.fn.self.tree l.fn.self.nodes (listed_in l.fn.records)))
    × (length l.entries.items + length (map dirent_read (records_in l.record-iterator)) ≤ vec_capacity l.entries)
    × (length l.file_entries.items + length (map dirent_read (records_in l.record-iterator)) ≤ vec_capacity
    l.file_entries)
