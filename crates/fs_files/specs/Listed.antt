-- The names that the bytes of records list.
use Rattle.std.specs.Prelude.{◌-◌, ℕ, List, Some, false, length, map}
use Rattle.fuse_spec.specs.Files.Operations.{Dirent, DirentPlus}
use Rattle.fuse_spec.specs.declared.Entry.{Entry}
use Rattle.fk_wire.specs.RecordEnds.{count_from}
use Rattle.fk_wire.specs.Dirents.{DirentContent, dirents_from}
use Rattle.fk_wire.specs.Records.{records_in}
use Rattle.fk_wire.specs.declared.records.Records.{Records}
use Rattle.fuse_frames.specs.ReplyTies.{dirent_read, direntpluses_of, AreWritten}

-- the records that these bytes are, if they are any
abbrev pub dirents_in : List ℕ → List DirentContent
dirents_in bytes = dirents_from (count_from (length bytes) false 0 bytes) 0 bytes

-- These bytes are records, as they are written.
abbrev pub AreRecordBytes : List ℕ → Type 0
AreRecordBytes bytes = AreWritten (dirents_in bytes) bytes

-- a name with the file of its inode number, valid for this many milliseconds
abbrev pub pair_listed : (valid : ℕ) → Dirent → DirentPlus ℕ
pair_listed valid d = record { file = Some (d.ino - 1); valid = valid; dirent = d }

-- the names that these bytes list
abbrev pub dirents_in_bytes : List ℕ → List Dirent
dirents_in_bytes bytes = map dirent_read (dirents_in bytes)

-- the names that these bytes list, each with the file of an entry
abbrev pub listed_pairs : (valid : ℕ) → List Entry → List ℕ → List (DirentPlus Entry)
listed_pairs valid entries bytes = direntpluses_of valid entries (dirents_in_bytes bytes)

-- the names of the records that are left
abbrev pub listed_in : Records → List Dirent
listed_in records = map dirent_read (records_in records)
