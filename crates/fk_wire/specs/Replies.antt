-- The replies, field by field, as the structs of linux/fuse.h have them, and what the bytes of a frame reply.
use Rattle.std.specs.Prelude.{◌≡◌, ◌≢◌, ◌≤◌, ◌≤ℤ◌, ℤ, pos, negsuc, ℕ, ◌-◌, Bool, true, false, IsTrue, ◌==◌, ◌&&◌}
use Rattle.std.specs.Prelude.{if◌then◌else◌, List, [], ◌∷◌, length, Option, Some, None, unwrap_or}
use Rattle.std.specs.Int.{cast_signed, cast_unsigned, w32}
use Rattle.std.specs.Int.RustNames.{bit_and}
use Rattle.fk_wire.specs.declared.opcode.Opcode.{Opcode}
use Rattle.fk_wire.specs.declared.opcode.Minor.{Minor}
use Rattle.fk_wire.specs.declared.opcode.Minor.TheVariants as minors
use Rattle.fk_wire.specs.declared.entry.Attr.{Attr}
use Rattle.fk_wire.specs.declared.reply.ReplyKind.{ReplyKind}
use Rattle.fk_wire.specs.declared.reply.ReplyKind.TheVariants as kind
use Rattle.fk_wire.specs.declared.reply.ReplyBody.{ReplyBody}
use Rattle.fk_wire.specs.declared.reply.ReplyBody.TheVariants as view
use Rattle.fk_wire.specs.declared.reply.Reply.{Reply}
use Rattle.fk_wire.specs.declared.reply.ReplyHead.{ReplyHead}
use Rattle.fk_wire.specs.Fields.{Field, raw, free, u32, u64, free32, free64, bits, number_at, bytes_at}
use Rattle.fk_wire.specs.Fields.{ReadsAs, InRange, HaveNames, spellings}
use Rattle.fk_wire.specs.Opcodes.{minor_knows, reply_kind_of, latest_minor}
use Rattle.fk_wire.specs.Entries.{EntryContent, IsEntry, entry_content, entry_fields, attr_fields, attr_at, entry_at}
use Rattle.fk_wire.specs.RecordEnds.{count_from}
use Rattle.fk_wire.specs.Dirents.{DirentContent, DirentPlusContent, dirents, direntpluses}
use Rattle.fk_wire.specs.Dirents.{dirents_from, direntpluses_from, HaveRecordNames, HavePlusNames, HaveEntries}
use Rattle.fk_wire.specs.Records.{records_in, pluses_in}
use Rattle.fk_wire.specs.Requests.{known_flags, max_frame}

-- what a reply's body says
pub data ReplyContent : Type 0 where
  empty_reply : ReplyContent
  entry_reply : (e : EntryContent) → ReplyContent
  attr_reply : (a : Attr) → ReplyContent
  open_reply : (fh : ℕ) → ReplyContent
  bytes_reply : (bytes : List ℕ) → ReplyContent
  write_reply : (size : ℕ) → ReplyContent
  init_reply : (major minor flags : ℕ) → ReplyContent
  create_reply : (e : EntryContent) (fh : ℕ) → ReplyContent
  records_reply : (ds : List DirentContent) → ReplyContent
  plus_reply : (ps : List DirentPlusContent) → ReplyContent

-- what a reply says
pub record ReplyMessage : Type 0 where
  pub unique : ℕ
  pub error : ℤ
  pub content : ReplyContent

-- what a body of the code says, without where its bytes lie in memory
abbrev pub reply_content : ReplyBody → ReplyContent
reply_content view.Empty = empty_reply
reply_content (view.Entry e) = entry_reply (entry_content e)
reply_content (view.Attr a) = attr_reply a
reply_content (view.Open fh) = open_reply fh
reply_content (view.Bytes bytes) = bytes_reply bytes.now
reply_content (view.Write size) = write_reply size
reply_content (view.Init major minor flags) = init_reply major minor (bit_and flags.0 known_flags)
reply_content (view.Create e fh) = create_reply (entry_content e) fh
reply_content (view.Records records) = records_reply (records_in records)
reply_content (view.RecordsPlus records) = plus_reply (pluses_in records)

-- what a reply of the code says
abbrev pub reply_message : Reply → ReplyMessage
reply_message r = record { unique = r.unique; error = r.error; content = reply_content r.body }

-- what a body says after a head
abbrev pub headed : ReplyHead → ReplyBody → ReplyMessage
headed head body = record { unique = head.unique; error = head.error; content = reply_content body }

-- the kind of body in the replies to an opcode at a minor version, which may not know the opcode
abbrev pub reply_kind : Minor → Opcode → Option ReplyKind
reply_kind minor o = if minor_knows minor o then reply_kind_of o else None

-- the kind of a body
abbrev pub kind_of_content : ReplyContent → ReplyKind
kind_of_content empty_reply = kind.Empty
kind_of_content (entry_reply e) = kind.Entry
kind_of_content (attr_reply a) = kind.Attr
kind_of_content (open_reply fh) = kind.Open
kind_of_content (bytes_reply bytes) = kind.Bytes
kind_of_content (write_reply size) = kind.Write
kind_of_content (init_reply major minor flags) = kind.Init
kind_of_content (create_reply e fh) = kind.Create
kind_of_content (records_reply ds) = kind.Records
kind_of_content (plus_reply ps) = kind.RecordsPlus

-- whether a minor version knows an opcode whose replies have such a body
abbrev pub knows_kind : Minor → ReplyKind → Bool
knows_kind minors.M31 k = true
knows_kind minors.M15 kind.RecordsPlus = false
knows_kind minors.M15 _ = true

-- struct fuse_open_out: fh, open_flags, padding
abbrev pub open_fields : ℕ → List Field
open_fields fh = u64 fh ∷ free32 0 ∷ free32 0 ∷ []

-- whether an INIT reply states 7.15
abbrev pub states_15 : (major minor : ℕ) → Bool
states_15 major minor = (major == 7) && (minor == 15)

-- the end of struct fuse_init_out, which 7.15 does not have: time_gran, max_pages, map_alignment, unused[8]
abbrev pub init_end : Bool → List Field
init_end true = []
init_end false = free32 1 ∷ free 2 0 ∷ free 2 0
    ∷ free32 0 ∷ free32 0 ∷ free32 0 ∷ free32 0 ∷ free32 0 ∷ free32 0 ∷ free32 0 ∷ free32 0 ∷ []

-- struct fuse_init_out: major, minor, max_readahead, flags, max_background, congestion_threshold, max_write; and its
-- end
abbrev pub init_fields : (major minor flags : ℕ) → List Field
init_fields major minor flags =
    u32 major ∷ u32 minor ∷ free32 0 ∷ bits known_flags flags ∷ free 2 0 ∷ free 2 0 ∷ free32 4096
    ∷ init_end (states_15 major minor)

-- the fields of a body
abbrev pub reply_body : ReplyContent → List Field
reply_body empty_reply = []
reply_body (entry_reply e) = entry_fields e []
-- struct fuse_attr_out: attr_valid, attr_valid_nsec, dummy, attr
reply_body (attr_reply a) = free64 0 ∷ free32 0 ∷ free32 0 ∷ attr_fields a []
reply_body (open_reply fh) = open_fields fh
reply_body (bytes_reply bytes) = raw bytes ∷ []
-- struct fuse_write_out: size, padding
reply_body (write_reply size) = u32 size ∷ free32 0 ∷ []
reply_body (init_reply major minor flags) = init_fields major minor flags
reply_body (create_reply e fh) = entry_fields e (open_fields fh)
reply_body (records_reply ds) = dirents ds
reply_body (plus_reply ps) = direntpluses ps

-- how many records a body of this kind has
abbrev pub record_count : ReplyKind → List ℕ → ℕ
record_count kind.Records bytes = count_from (length bytes) false 16 bytes
record_count kind.RecordsPlus bytes = count_from (length bytes) true 16 bytes
record_count k bytes = 0

-- The content of a body, of a kind and with this many records, if it is one.
abbrev pub reply_content_at : ReplyKind → ℕ → List ℕ → ReplyContent
reply_content_at kind.Empty count bytes = empty_reply
reply_content_at kind.Entry count bytes = entry_reply (entry_at 16 bytes)
reply_content_at kind.Attr count bytes = attr_reply (attr_at 32 bytes)
reply_content_at kind.Open count bytes = open_reply (number_at 16 8 bytes)
reply_content_at kind.Bytes count bytes = bytes_reply (bytes_at 16 (length bytes - 16) bytes)
reply_content_at kind.Write count bytes = write_reply (number_at 16 4 bytes)
reply_content_at kind.Init count bytes = init_reply (number_at 16 4 bytes) (number_at 20 4 bytes)
    (bit_and (number_at 28 4 bytes) known_flags)
reply_content_at kind.Create count bytes = create_reply (entry_at 16 bytes) (number_at 144 8 bytes)
reply_content_at kind.Records count bytes = records_reply (dirents_from count 16 bytes)
reply_content_at kind.RecordsPlus count bytes = plus_reply (direntpluses_from count 16 bytes)

-- What else a body has to be: its entries are entries.
abbrev pub IsReplyContent : ReplyContent → Type 0
IsReplyContent (entry_reply e) = IsEntry e
IsReplyContent (create_reply e fh) = IsEntry e
IsReplyContent (plus_reply ps) = HaveEntries ps
IsReplyContent content = Unit {0}

-- The names in a body are records' names.
abbrev pub HasReplyNames : ReplyContent → Type 0
HasReplyNames (records_reply ds) = HaveRecordNames ds
HasReplyNames (plus_reply ps) = HavePlusNames ps
HasReplyNames content = Unit {0}

-- The frame's bytes after its header are this body, of this kind.
abbrev pub IsReplyBodyOf : ReplyKind → List ℕ → ReplyBody → Type 0
IsReplyBodyOf k bytes body = (kind_of_content (reply_content body) ≡ k) × IsReplyContent (reply_content body)
    × HasReplyNames (reply_content body) × ReadsAs 16 (reply_body (reply_content body)) bytes

-- An error is 0 or a negated error number, down to -511.
abbrev pub IsErrorNumber : ℤ → Type 0
IsErrorNumber z = (z ≤ℤ pos 0) × (negsuc 510 ≤ℤ z)

-- What goes with an opcode: an error alone, or a body of its kind.
abbrev pub GoesWith : Minor → Opcode → ReplyMessage → Type 0
GoesWith minor o t = (k : ReplyKind) × (reply_kind minor o ≡ Some k)
    × (kind_of_content t.content ≡ (if cast_unsigned w32 t.error == 0 then k else kind.Empty))

-- struct fuse_out_header: len, error, unique; and then the body
abbrev pub reply_fields : ℕ → ReplyMessage → List Field
reply_fields len t = u32 len ∷ u32 (cast_unsigned w32 t.error) ∷ u64 t.unique ∷ reply_body t.content

-- The bytes are a frame that spells the reply to a request of this opcode, at a minor version.
abbrev pub SpellsReplyAt : Minor → Opcode → List ℕ → ReplyMessage → Type 0
SpellsReplyAt minor o bytes t = (length bytes ≤ max_frame) × IsErrorNumber t.error × GoesWith minor o t
    × IsReplyContent t.content × HasReplyNames t.content × ReadsAs 0 (reply_fields (length bytes) t) bytes

-- An error stands alone.
abbrev pub IsAlone : ReplyMessage → Type 0
IsAlone t = cast_unsigned w32 t.error ≢ 0 → kind_of_content t.content ≡ kind.Empty

-- The bytes are the one frame in which the reply is written, at a minor version.
abbrev pub WrittenReplyAt : Minor → ReplyMessage → List ℕ → Type 0
WrittenReplyAt minor t bytes = (length bytes ≤ max_frame) × IsErrorNumber t.error
    × IsTrue (knows_kind minor (kind_of_content t.content)) × IsAlone t × IsReplyContent t.content
    × HasReplyNames t.content × InRange (reply_fields (length bytes) t) × HaveNames (reply_fields (length bytes) t)
    × (bytes ≡ spellings (reply_fields (length bytes) t))

-- A frame spells a reply at the latest minor version.
abbrev pub SpellsReply : Opcode → List ℕ → ReplyMessage → Type 0
SpellsReply = SpellsReplyAt latest_minor

abbrev pub WrittenReply : ReplyMessage → List ℕ → Type 0
WrittenReply = WrittenReplyAt latest_minor

-- the kind of body in a frame that replies to this opcode
abbrev pub decoded_kind : Opcode → List ℕ → ReplyKind
decoded_kind o bytes = if number_at 4 4 bytes == 0 then unwrap_or (reply_kind_of o) kind.Empty else kind.Empty

-- the reply to a request of this opcode that a frame spells
unfoldable pub decoded_reply : Opcode → List ℕ → ReplyMessage
decoded_reply o bytes = let k = decoded_kind o bytes in
    record {
      unique = number_at 8 8 bytes;
      error = cast_signed w32 (number_at 4 4 bytes);
      content = reply_content_at k (record_count k bytes) bytes;
    }
