-- What the struct of a reply says. Data stand in it as a place in bytes of the caller's.
use Rattle.std.specs.Prelude.{◌≡◌, ◌≤◌, ◌<◌, ◌+◌, ℕ, ℤ, Bool, true, false, IsTrue, List, length}
use Rattle.std.specs.Int.{cast_unsigned, w32}
use Rattle.std.specs.Int.RustNames.{bit_and}
use Rattle.fk_wire.specs.Fields.{bytes_at}
use Rattle.fk_wire.specs.Entries.{EntryContent, entry_of}
use Rattle.fk_wire.specs.Dirents.{DirentContent}
use Rattle.fk_wire.specs.Records.{AreRecords, AreRecordsPlus}
use Rattle.fk_wire.specs.ReplyFaults.{FitsReply}
use Rattle.fk_wire.specs.Requests.{known_flags}
use Rattle.fk_wire.specs.Replies.{HasReplyNames, IsErrorNumber, kind_of_content, knows_kind}
use Rattle.fk_wire.specs.Replies.{ReplyMessage, ReplyContent, empty_reply, entry_reply, attr_reply, open_reply}
use Rattle.fk_wire.specs.Replies.{bytes_reply, write_reply, init_reply, create_reply, records_reply, plus_reply}
use Rattle.fk_wire.specs.declared.entry.Attr.{Attr}
use Rattle.fk_wire.specs.declared.opcode.Minor.{Minor}
use Rattle.fk_wire.specs.declared.opcode.Opcode.{Opcode}
use Rattle.fk_wire.specs.declared.opcode.Opcode.TheVariants as op
use Rattle.fuseworld_codec.specs.declared.layout.FlatAttr.{FlatAttr}
use Rattle.fuseworld_codec.specs.declared.layout.FlatDirent.{FlatDirent}
use Rattle.fuseworld_codec.specs.declared.layout.FlatEntry.{FlatEntry}
use Rattle.fuseworld_codec.specs.declared.layout.FlatReply.{FlatReply}

-- the attributes that a struct says
abbrev pub attr_said : FlatAttr → Attr
attr_said a = record { ino = a.ino; size = a.size; mode = a.mode; nlink = a.nlink }

-- the entry that a struct says, which with node id 0 is a missing name
abbrev pub entry_said : FlatEntry → EntryContent
entry_said e = entry_of e.nodeid e.generation e.entry_valid e.entry_valid_nsec (attr_said e.attr)

-- the record that a struct says, whose name lies in these bytes
abbrev pub dirent_said : FlatDirent → List ℕ → DirentContent
dirent_said d bytes = record {
  ino = d.ino;
  off = d.off;
  kind = d.kind;
  name = bytes_at d.name_offset d.name_length bytes;
}

-- the bytes of a reply
abbrev pub bytes_said : FlatReply → List ℕ → List ℕ
bytes_said r bytes = bytes_at r.data_offset r.data_length bytes

-- The struct replies this, by the fields that count for its opcode.
abbrev pub Replies : FlatReply → List ℕ → ReplyContent → Type 0
Replies r bytes empty_reply = Unit {0}
Replies r bytes (entry_reply e) = entry_said r.entry ≡ e
Replies r bytes (attr_reply a) = attr_said r.entry.attr ≡ a
Replies r bytes (open_reply fh) = r.fh ≡ fh
Replies r bytes (bytes_reply data') = bytes_said r bytes ≡ data'
Replies r bytes (write_reply size) = r.size ≡ size
Replies r bytes (init_reply major minor flags) = (r.major ≡ major) × (r.minor ≡ minor)
    × (bit_and r.flags known_flags ≡ flags)
Replies r bytes (create_reply e fh) = (entry_said r.entry ≡ e) × (r.fh ≡ fh)
Replies r bytes (records_reply ds) = AreRecords 0 (bytes_said r bytes) ds
Replies r bytes (plus_reply ps) = AreRecordsPlus 0 (bytes_said r bytes) ps

-- The struct is this reply.
abbrev pub IsReplyStruct : FlatReply → List ℕ → ReplyMessage → Type 0
IsReplyStruct r bytes t = (r.unique ≡ t.unique) × (r.error ≡ t.error) × Replies r bytes t.content

-- no attributes, and no entry
abbrev pub no_attr : FlatAttr
no_attr = record { ino = 0; size = 0; mode = 0; nlink = 0 }

abbrev pub no_entry : FlatEntry
no_entry = record {
  nodeid = 0;
  generation = 0;
  entry_valid = 0;
  entry_valid_nsec = 0;
  padding = 0;
  attr = no_attr;
}

-- a struct of an opcode, with a unique and an error, that says nothing more
abbrev pub reply_head : (opcode unique : ℕ) (error : ℤ) → FlatReply
reply_head opcode unique error = record {
  unique = unique;
  error = error;
  opcode = opcode;
  entry = no_entry;
  fh = 0;
  data_offset = 0;
  data_length = 0;
  size = 0;
  major = 0;
  minor = 0;
  flags = 0;
}

abbrev head_of : FlatReply → FlatReply
head_of r = reply_head r.opcode r.unique r.error

abbrev data_only : FlatReply → FlatReply
data_only r = record (head_of r) { data_offset = r.data_offset; data_length = r.data_length }

-- The struct with the fields that count for such a body, and of INIT's flags with those that are known. The others
-- are 0.
abbrev pub counted_reply : ReplyContent → FlatReply → FlatReply
counted_reply empty_reply r = head_of r
counted_reply (entry_reply e) r = record (head_of r) { entry = record r.entry { padding = 0 } }
counted_reply (attr_reply a) r = record (head_of r) { entry = record no_entry { attr = r.entry.attr } }
counted_reply (open_reply fh) r = record (head_of r) { fh = r.fh }
counted_reply (bytes_reply data') r = data_only r
counted_reply (write_reply size) r = record (head_of r) { size = r.size }
counted_reply (init_reply major minor flags) r = record (head_of r) {
  major = r.major;
  minor = r.minor;
  flags = bit_and r.flags known_flags;
}
counted_reply (create_reply e fh) r = record (head_of r) { entry = record r.entry { padding = 0 }; fh = r.fh }
counted_reply (records_reply ds) r = data_only r
counted_reply (plus_reply ps) r = data_only r

-- The data of the struct lie within the bytes.
abbrev pub HasReplyPlace : FlatReply → List ℕ → Type 0
HasReplyPlace r bytes = r.data_offset + r.data_length ≤ length bytes

-- whether replies to an opcode have data
abbrev pub has_data : Opcode → Bool
has_data op.Read = true
has_data op.Readdir = true
has_data op.Readdirplus = true
has_data _ = false

-- The data of the struct count for the opcode, and lead beyond the bytes.
abbrev pub LeadsBeyond : Opcode → FlatReply → List ℕ → Type 0
LeadsBeyond o r bytes = IsTrue (has_data o) × (cast_unsigned w32 r.error ≡ 0)
    × (length bytes < r.data_offset + r.data_length)

-- A reply has a spelling at a minor version.
abbrev pub HasReplySpelling : Minor → ReplyMessage → Type 0
HasReplySpelling v t = IsErrorNumber t.error × IsTrue (knows_kind v (kind_of_content t.content)) × FitsReply t
    × HasReplyNames t.content
