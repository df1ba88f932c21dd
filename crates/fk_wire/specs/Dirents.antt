-- The records of a directory, field by field, as the structs of linux/fuse.h have them.
use Rattle.std.specs.Prelude.{ℕ, true, false, zero, suc, ◌+◌, List, [], ◌∷◌, length}
use Rattle.fk_wire.specs.Fields.{Field, IsRecordName, u32, u64, free, raw, number_at}
use Rattle.fk_wire.specs.Entries.{EntryContent, IsEntry, entry_fields, entry_at}
use Rattle.fk_wire.specs.RecordEnds.{padding, name_at, record_end}

-- a record, without where its name lies in memory
pub record DirentContent : Type 0 where
  pub ino : ℕ
  pub off : ℕ
  pub kind : ℕ
  pub name : List ℕ

-- an entry and a record
pub record DirentPlusContent : Type 0 where
  pub entry_out : EntryContent
  pub dirent : DirentContent

-- struct fuse_dirent: ino, off, namelen, type, name, padding; and what follows
abbrev pub dirent_fields : DirentContent → List Field → List Field
dirent_fields d after = u64 d.ino ∷ u64 d.off ∷ u32 (length d.name) ∷ u32 d.kind ∷ raw d.name ∷ free
    (padding (length d.name)) 0 ∷ after

-- records, one after the other
abbrev pub dirents : List DirentContent → List Field
dirents [] = []
dirents (d ∷ ds) = dirent_fields d (dirents ds)

-- struct fuse_direntplus, each: entry_out, dirent
abbrev pub direntpluses : List DirentPlusContent → List Field
direntpluses [] = []
direntpluses (p ∷ ps) = entry_fields p.entry_out (dirent_fields p.dirent (direntpluses ps))

-- Each name is a record's name.
abbrev pub HaveRecordNames : List DirentContent → Type 0
HaveRecordNames [] = Unit {0}
HaveRecordNames (d ∷ ds) = IsRecordName d.name × HaveRecordNames ds

-- Each name of a pair is a record's name.
abbrev pub HavePlusNames : List DirentPlusContent → Type 0
HavePlusNames [] = Unit {0}
HavePlusNames (p ∷ ps) = IsRecordName p.dirent.name × HavePlusNames ps

-- Each entry of a pair is one.
abbrev pub HaveEntries : List DirentPlusContent → Type 0
HaveEntries [] = Unit {0}
HaveEntries (p ∷ ps) = IsEntry p.entry_out × HaveEntries ps

-- the record at a place
abbrev pub dirent_at : ℕ → List ℕ → DirentContent
dirent_at place bytes = record {
  ino = number_at place 8 bytes;
  off = number_at (place + 8) 8 bytes;
  kind = number_at (place + 20) 4 bytes;
  name = name_at place bytes;
}

-- this many records from a place on
abbrev pub dirents_from : ℕ → ℕ → List ℕ → List DirentContent
dirents_from zero place bytes = []
dirents_from (suc count) place bytes = dirent_at place bytes ∷ dirents_from count (record_end false place bytes) bytes

-- this many pairs of an entry and a record from a place on
abbrev pub direntpluses_from : ℕ → ℕ → List ℕ → List DirentPlusContent
direntpluses_from zero place bytes = []
direntpluses_from (suc count) place bytes = record {
  entry_out = entry_at place bytes;
  dirent = dirent_at (place + 128) bytes;
} ∷ direntpluses_from count (record_end true place bytes) bytes
