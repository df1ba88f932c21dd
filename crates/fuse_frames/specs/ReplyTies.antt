-- A reply as its frame spells it, and as the machine of kernel and server has it.
use Rattle.std.specs.Prelude.{◌≡◌, ◌≤◌, Bool, true, false, IsTrue, ℕ, ℤ, pos, negsuc, ◌+◌, ◌-◌, ◌*◌, ◌/◌, ◌%◌}
use Rattle.std.specs.Prelude.{min, cond, nat_eq, List, [], ◌∷◌, Option, Some, None, map}
use Rattle.std.specs.Int.RustNames.{bit_and}
use Rattle.fk_wire.specs.declared.opcode.Opcode.{Opcode}
use Rattle.fk_wire.specs.declared.opcode.Opcode.TheVariants as op
use Rattle.fk_wire.specs.declared.entry.Attr.{Attr}
use Rattle.fk_wire.specs.Entries.{EntryContent, missing, found, entry_of}
use Rattle.fk_wire.specs.Dirents.{DirentContent, DirentPlusContent, HaveRecordNames, dirents}
use Rattle.fk_wire.specs.Fields.{InRange, sizes, spellings}
use Rattle.fk_wire.specs.Replies.{ReplyContent, empty_reply, entry_reply, attr_reply, open_reply, bytes_reply}
use Rattle.fk_wire.specs.Replies.{write_reply, init_reply, create_reply, records_reply, plus_reply, ReplyMessage}
use Rattle.fk_wire.specs.Replies.{GoesWith, SpellsReply, WrittenReply, IsErrorNumber, IsReplyContent, HasReplyNames}
use Rattle.fk_wire.specs.Replies.{kind_of_content, knows_kind, reply_body, decoded_reply}
use Rattle.fk_wire.specs.Opcodes.{latest_minor}
use Rattle.fuse_spec.specs.Values.Numbers.{max_transfer, max_validity}
use Rattle.fuse_spec.specs.Files.Operations as reply
use Rattle.fuse_spec.specs.Files.Operations.{Dirent, DirentPlus}
use Rattle.fuse_spec.specs.declared.Kind.{Kind}
use Rattle.fuse_spec.specs.declared.Kind.TheVariants.{Directory, Regular, Other}
use Rattle.fuse_spec.specs.declared.Attributes.{Attributes}
use Rattle.fuse_spec.specs.declared.Entry.{Entry}
use Rattle.fuse_spec.specs.Kernel.Messages.{WireReply}

-- a validity in milliseconds, at most a day
abbrev pub milliseconds : (seconds nanoseconds : ℕ) → ℕ
milliseconds seconds nanoseconds = min (seconds * 1000 + nanoseconds / 1000000) max_validity

-- The kind of a file, by the type bits of its mode (octal 0170000): 0040000 is a directory, 0100000 a regular file.
abbrev pub kind_of_mode : ℕ → Kind
kind_of_mode mode = cond (nat_eq (bit_and mode 61440) 16384) Directory
    (cond (nat_eq (bit_and mode 61440) 32768) Regular Other)

abbrev pub attributes_in : Attr → Attributes
attributes_in a = record { kind = kind_of_mode a.mode; ino = a.ino; size = a.size; nlink = a.nlink }

abbrev pub entry_in : (nodeid generation : ℕ) → Attr → Entry
entry_in nodeid generation a = record { nodeid = nodeid; generation = generation; attributes = attributes_in a }

-- no attributes, for an entry that names no node
abbrev pub no_entry : Entry
no_entry = record { nodeid = 0; generation = 0; attributes = record { kind = Other; ino = 0; size = 0; nlink = 0 } }

-- the kind of a record, by its type: 4 is a directory, 8 a regular file
abbrev pub kind_of_type : ℕ → Kind
kind_of_type type = cond (nat_eq type 4) Directory (cond (nat_eq type 8) Regular Other)

abbrev pub dirent_read : DirentContent → Dirent
dirent_read d = record { ino = d.ino; offset = d.off; kind = kind_of_type d.kind; name = d.name }

-- The file that an entry names, if it names one, and for how many milliseconds. (linux/fuse.h, struct fuse_entry_out)
abbrev pub file_named : EntryContent → Option Entry
file_named (missing seconds nanoseconds) = None
file_named (found nodeid generation seconds nanoseconds a) = Some (entry_in nodeid generation a)

abbrev pub valid_in : EntryContent → ℕ
valid_in (missing seconds nanoseconds) = milliseconds seconds nanoseconds
valid_in (found nodeid generation seconds nanoseconds a) = milliseconds seconds nanoseconds

-- A name in a list with the file of its entry. (linux/fuse.h, struct fuse_direntplus)
abbrev pub pair_in : DirentPlusContent → DirentPlus Entry
pair_in p = record { file = file_named p.entry_out; valid = valid_in p.entry_out; dirent = dirent_read p.dirent }

-- what a body says
abbrev pub wire_body : ReplyContent → WireReply
wire_body empty_reply = reply.done
wire_body (entry_reply (missing seconds nanoseconds)) = reply.missing (milliseconds seconds nanoseconds)
wire_body (entry_reply (found nodeid generation seconds nanoseconds a)) =
    reply.found (entry_in nodeid generation a) (milliseconds seconds nanoseconds)
wire_body (attr_reply a) = reply.attributes (attributes_in a)
wire_body (open_reply fh) = reply.opened fh
wire_body (bytes_reply bytes) = reply.content bytes
wire_body (write_reply size) = reply.written size
wire_body (init_reply major minor flags) = reply.agreed major minor flags
wire_body (create_reply (missing seconds nanoseconds) fh) = reply.created no_entry (milliseconds seconds nanoseconds) fh
wire_body (create_reply (found nodeid generation seconds nanoseconds a) fh) =
    reply.created (entry_in nodeid generation a) (milliseconds seconds nanoseconds) fh
wire_body (records_reply ds) = reply.listed (map dirent_read ds)
wire_body (plus_reply ps) = reply.listed_plus (map pair_in ps)

-- what a reply says: its body, or the error number alone
abbrev pub wire_said : ℤ → ReplyContent → WireReply
wire_said (pos n) content = wire_body content
wire_said (negsuc n) content = reply.failed (n + 1)

-- The bytes spell this reply to a request of this opcode.
pub record SaysReply (o : Opcode) (bytes : List ℕ) (unique : ℕ) (wire : WireReply) : Type 0 where
  pub message : ReplyMessage
  pub spells : SpellsReply o bytes message
  pub unique_is : message.unique ≡ unique
  pub says : wire_said message.error message.content ≡ wire

-- A reply as its frame has it.
pub record Framed : Type 0 where
  pub unique : ℕ
  pub wire : WireReply

abbrev pub framed_by : ReplyMessage → Framed
framed_by m = record { unique = m.unique; wire = wire_said m.error m.content }

-- ---- how replies are written

-- The mode of a file: octal 040755 of a directory, 0100644 of a regular file. No file of another kind is served.
abbrev pub mode_of : Kind → ℕ
mode_of Directory = 16877
mode_of Regular = 33188
mode_of Other = 0

abbrev pub attr_of : Attributes → Attr
attr_of a = record { ino = a.ino; size = a.size; mode = mode_of a.kind; nlink = a.nlink }

-- A validity in milliseconds is written as whole seconds, and the rest as nanoseconds.
abbrev pub found_entry : Entry → ℕ → EntryContent
found_entry e valid = found e.nodeid e.generation (valid / 1000) (valid % 1000 * 1000000) (attr_of e.attributes)

abbrev pub missing_of : ℕ → EntryContent
missing_of valid = missing (valid / 1000) (valid % 1000 * 1000000)

-- the type of a kind: 4 is a directory, 8 a regular file
abbrev pub type_of : Kind → ℕ
type_of Directory = 4
type_of Regular = 8
type_of Other = 0

abbrev pub dirent_written : Dirent → DirentContent
dirent_written d = record { ino = d.ino; off = d.offset; kind = type_of d.kind; name = d.name }

-- The bytes are these records as they are written, with zeros behind each name; each name is a record's, and each type
-- that of a kind.
pub record AreWritten (ds : List DirentContent) (bytes : List ℕ) : Type 0 where
  pub named : HaveRecordNames ds
  pub fit : InRange (dirents ds)
  pub spelled : bytes ≡ spellings (dirents ds)
  pub typed : map dirent_written (map dirent_read ds) ≡ ds

-- A name in a list is written with the entry of its file, or with one that names none.
abbrev pub written_entry_for : (valid : ℕ) → Option Entry → EntryContent
written_entry_for valid None = missing_of valid
written_entry_for valid (Some entry) = found_entry entry valid

abbrev pub written_pair : DirentPlus Entry → DirentPlusContent
written_pair p = record { entry_out = written_entry_for p.valid p.file; dirent = dirent_written p.dirent }

-- The next three are names in a list with their entries, one to each name, where one of node 0 is of no file.
abbrev pub entry_listed : Entry → Option Entry
entry_listed e = cond (nat_eq e.nodeid 0) None (Some e)

abbrev pub direntpluses_of : (valid : ℕ) → List Entry → List Dirent → List (DirentPlus Entry)
direntpluses_of valid (e ∷ entries) (d ∷ dirents) = record {
  file = entry_listed e;
  valid = valid;
  dirent = d;
} ∷ direntpluses_of valid entries dirents
direntpluses_of valid [] dirents = []
direntpluses_of valid (e ∷ entries) [] = []

abbrev pub pairs_listed : (valid : ℕ) → List Entry → List DirentContent → List DirentPlusContent
pairs_listed valid (e ∷ entries) (d ∷ ds) = record {
  entry_out =
      entry_of e.nodeid e.generation (valid / 1000) (valid % 1000 * 1000000) (attr_of e.attributes);
  dirent =
      d;
} ∷ pairs_listed valid entries ds
pairs_listed valid [] ds = []
pairs_listed valid (e ∷ entries) [] = []

-- the body of a reply; an error has none
abbrev pub reply_content_of : WireReply → ReplyContent
reply_content_of (reply.found entry valid) = entry_reply (found_entry entry valid)
reply_content_of (reply.missing valid) = entry_reply (missing_of valid)
reply_content_of (reply.created entry valid fh) = create_reply (found_entry entry valid) fh
reply_content_of (reply.opened fh) = open_reply fh
reply_content_of (reply.attributes attributes) = attr_reply (attr_of attributes)
reply_content_of (reply.listed records) = records_reply (map dirent_written records)
reply_content_of (reply.listed_plus pairs) = plus_reply (map written_pair pairs)
reply_content_of (reply.content bytes) = bytes_reply bytes
reply_content_of (reply.written size) = write_reply size
reply_content_of (reply.agreed major minor flags) = init_reply major minor flags
reply_content_of reply.done = empty_reply
reply_content_of (reply.failed errno) = empty_reply

abbrev pub error_of : WireReply → ℤ
error_of (reply.failed errno) = negsuc (errno - 1)
error_of wire = pos 0

abbrev pub message_of : Framed → ReplyMessage
message_of f = record { unique = f.unique; error = error_of f.wire; content = reply_content_of f.wire }

-- The bytes are the one frame in which this reply to a request of this opcode is written, and they say it.
pub record IsReplyFrame (o : Opcode) (bytes : List ℕ) (framed : Framed) : Type 0 where
  pub written : WrittenReply (message_of framed) bytes
  pub goes : GoesWith latest_minor o (message_of framed)
  pub says : wire_said (error_of framed.wire) (reply_content_of framed.wire) ≡ framed.wire

-- What the bytes of a reply are, where they spell anything.
unfoldable pub said_in : Opcode → List ℕ → WireReply
said_in o bytes = (framed_by (decoded_reply o bytes)).wire

-- the opcodes that are replied to
abbrev pub has_reply : Opcode → Bool
has_reply op.Forget = false
has_reply op.BatchForget = false
has_reply o = true

-- How many bytes the longest reply of a fixed length has, which is CREATE's: a header, an entry and an open.
abbrev pub reply_room : ℕ
reply_room = 160

-- How many bytes the longest reply has, which is that to a READ: a header, and as many bytes as one read gives.
abbrev pub most_room : ℕ
most_room = 16 + max_transfer

-- A reply that can be written.
pub record FitsRoom (m : ReplyMessage) : Type 0 where
  pub error : IsErrorNumber m.error
  pub entries : IsReplyContent m.content
  pub nameless : HasReplyNames m.content
  pub served_so : IsTrue (knows_kind latest_minor (kind_of_content m.content))
  pub short : 16 + sizes (reply_body m.content) ≤ most_room
