-- What the codec reads as a reply, the reader of the table reads too, and says the same of it.
use Rattle.std.specs.Prelude.{◌≡◌, ℕ, ℤ, ◌+◌, ◌^◌, List, map}
use Rattle.std.specs.Int.{cast_unsigned, w32}
use Rattle.fk_wire.specs.declared.opcode.Opcode.{Opcode as CodecOpcode}
use Rattle.fk_wire.specs.declared.opcode.Opcode.TheVariants as codec_op
use Rattle.fk_wire.specs.declared.entry.Attr.{Attr}
use Rattle.fk_wire.specs.Entries.{EntryContent, entry_of}
use Rattle.fk_wire.specs.Dirents.{DirentContent, DirentPlusContent}
use Rattle.fk_wire.specs.Replies.{ReplyContent, empty_reply, entry_reply, attr_reply, open_reply, bytes_reply, write_reply, init_reply, create_reply, records_reply, plus_reply}
use Rattle.fk_wire.specs.Replies.{ReplyMessage as CodecReply}
use Rattle.fuse_protocol.specs.declared.agreed.Agreed.{Agreed}
use Rattle.fuse_protocol.specs.declared.opcode.Opcode.{Opcode}
use Rattle.fuse_protocol.specs.declared.opcode.Opcode.TheVariants as op
use Rattle.fuse_protocol.specs.Table.{row_at}
use Rattle.fuse_replies.specs.declared.entry.Attributes.{Attributes}
use Rattle.fuse_replies.specs.declared.entry.Entry.{Entry}
use Rattle.fuse_replies.specs.Record.{RecordContent, EntryRecordContent}
use Rattle.fuse_replies.specs.Replies.{AnswerContent, failed, done, entry, attributes, opened, created, number, raw, records, entry_records, init, ReplyMessage, IsReply}

-- the table's opcode of the codec's
abbrev pub table_opcode : CodecOpcode → Opcode
table_opcode codec_op.Lookup = op.Lookup
table_opcode codec_op.Forget = op.Forget
table_opcode codec_op.Getattr = op.Getattr
table_opcode codec_op.Mkdir = op.Mkdir
table_opcode codec_op.Unlink = op.Unlink
table_opcode codec_op.Rmdir = op.Rmdir
table_opcode codec_op.Rename = op.Rename
table_opcode codec_op.Link = op.Link
table_opcode codec_op.Open = op.Open
table_opcode codec_op.Read = op.Read
table_opcode codec_op.Write = op.Write
table_opcode codec_op.Release = op.Release
table_opcode codec_op.Init = op.Init
table_opcode codec_op.Readdir = op.Readdir
table_opcode codec_op.Create = op.Create
table_opcode codec_op.Interrupt = op.Interrupt
table_opcode codec_op.BatchForget = op.BatchForget
table_opcode codec_op.Readdirplus = op.Readdirplus

-- what the codec says of attributes, of an entry and of records
abbrev pub attr_said : Attributes → Attr
attr_said a = record { ino = a.ino; size = a.size; mode = a.mode; nlink = a.nlink }

abbrev pub entry_said : Entry → EntryContent
entry_said e =
    entry_of e.nodeid e.generation e.name_validity.seconds e.name_validity.nanoseconds (attr_said e.attributes)

abbrev pub dirent_said : RecordContent → DirentContent
dirent_said r = record { ino = r.ino; off = r.off; kind = r.kind; name = r.name }

abbrev pub dirent_plus_said : EntryRecordContent → DirentPlusContent
dirent_plus_said r = record { entry_out = entry_said r.entry; dirent = dirent_said r.said }

-- Both say the same of a reply with this error.
abbrev pub SayTheSame : ℤ → ReplyContent → AnswerContent → Type 0
SayTheSame error empty_reply done = cast_unsigned w32 error ≡ 0
SayTheSame error empty_reply (failed errno) = errno + cast_unsigned w32 error ≡ 2 ^ 32
SayTheSame error (entry_reply e) (entry given) = entry_said given ≡ e
SayTheSame error (attr_reply a) (attributes given) = attr_said given.attributes ≡ a
SayTheSame error (open_reply fh) (opened given) = given.handle ≡ fh
SayTheSame error (bytes_reply bytes) (raw given) = given ≡ bytes
SayTheSame error (write_reply size) (number given) = given ≡ size
SayTheSame error (init_reply major minor flags) (init given) = (given.major ≡ major) × (given.minor ≡ minor)
SayTheSame error (create_reply e fh) (created given handle) = (entry_said given ≡ e) × (handle.handle ≡ fh)
SayTheSame error (records_reply ds) (records given) = map dirent_said given ≡ ds
SayTheSame error (plus_reply ps) (entry_records given) = map dirent_plus_said given ≡ ps
SayTheSame error _ _ = ⊥

-- A frame of the codec's reply is a reply of the table's row that says the same.
abbrev pub IsRepliedAlike : Agreed → CodecOpcode → (asked : ℕ) → List ℕ → CodecReply → Type 0
IsRepliedAlike agreed o asked bytes t = (r : ReplyMessage)
    × IsReply agreed (row_at (table_opcode o)).reply asked bytes r
    × ((r.unique ≡ t.unique) × SayTheSame t.error t.content r.answer)
