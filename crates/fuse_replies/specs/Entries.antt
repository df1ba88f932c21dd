-- Entries, attributes and open handles, field by field, as the structs of linux/fuse.h have them.
use Rattle.std.specs.Prelude.{ℕ, ◌+◌, List}
use Rattle.fk_fields.specs.Fields.{number_at}
use Rattle.fuse_replies.specs.declared.entry.Attributes.{Attributes}
use Rattle.fuse_replies.specs.declared.entry.ValidAttributes.{ValidAttributes}
use Rattle.fuse_replies.specs.declared.entry.Entry.{Entry}
use Rattle.fuse_replies.specs.declared.entry.Opened.{Opened}

-- struct fuse_attr: ino, size, blocks, three times, their nanoseconds, mode, nlink, uid, gid, and what follows
abbrev pub attributes_at : ℕ → List ℕ → Attributes
attributes_at place bytes = record {
  ino = number_at place 8 bytes;
  size = number_at (place + 8) 8 bytes;
  mode = number_at (place + 60) 4 bytes;
  nlink = number_at (place + 64) 4 bytes;
  uid = number_at (place + 68) 4 bytes;
  gid = number_at (place + 72) 4 bytes;
}

-- struct fuse_attr_out: attr_valid, attr_valid_nsec, dummy, attr
abbrev pub valid_attributes_at : ℕ → List ℕ → ValidAttributes
valid_attributes_at place bytes = record {
  validity = record { seconds = number_at place 8 bytes; nanoseconds = number_at (place + 8) 4 bytes };
  attributes = attributes_at (place + 16) bytes;
}

-- struct fuse_entry_out: nodeid, generation, entry_valid, attr_valid, entry_valid_nsec, attr_valid_nsec, attr
abbrev pub entry_at : ℕ → List ℕ → Entry
entry_at place bytes = record {
  nodeid = number_at place 8 bytes;
  generation = number_at (place + 8) 8 bytes;
  name_validity = record { seconds = number_at (place + 16) 8 bytes; nanoseconds = number_at (place + 32) 4 bytes };
  validity = record { seconds = number_at (place + 24) 8 bytes; nanoseconds = number_at (place + 36) 4 bytes };
  attributes = attributes_at (place + 40) bytes;
}

-- struct fuse_open_out: fh, open_flags, padding
abbrev pub opened_at : ℕ → List ℕ → Opened
opened_at place bytes = record { handle = number_at place 8 bytes; flags = number_at (place + 8) 4 bytes }
