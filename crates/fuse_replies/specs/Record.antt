-- A record of a listing, as the structs of linux/fuse.h have it.
use Rattle.std.specs.Prelude.{ℕ, ◌+◌, List, take, drop}
use Rattle.fk_fields.specs.Fields.{number_at}
use Rattle.fuse_replies.specs.declared.entry.Entry.{Entry}
use Rattle.fuse_replies.specs.declared.record.Record.{Record}
use Rattle.fuse_replies.specs.declared.record.EntryRecord.{EntryRecord}
use Rattle.fuse_replies.specs.Entries.{entry_at}

-- what a record says, without where its name lies in memory
pub record RecordContent : Type 0 where
  pub ino : ℕ
  pub off : ℕ
  pub kind : ℕ
  pub name : List ℕ

-- a record with the entry in front of it
pub record EntryRecordContent : Type 0 where
  pub entry : Entry
  pub said : RecordContent

abbrev pub record_content : Record → RecordContent
record_content r = record { ino = r.ino; off = r.off; kind = r.kind; name = r.name.now }

abbrev pub entry_record_content : EntryRecord → EntryRecordContent
entry_record_content r = record { entry = r.entry; said = record_content r.record }

-- struct fuse_dirent: ino, off, namelen, type, name
abbrev pub record_at : List ℕ → ℕ → RecordContent
record_at bytes place = record {
  ino = number_at place 8 bytes;
  off = number_at (place + 8) 8 bytes;
  kind = number_at (place + 20) 4 bytes;
  name = take (number_at (place + 16) 4 bytes) (drop (place + 24) bytes);
}

-- struct fuse_direntplus: entry_out, dirent
abbrev pub entry_record_at : List ℕ → ℕ → EntryRecordContent
entry_record_at bytes place = record { entry = entry_at place bytes; said = record_at bytes (place + 128) }
