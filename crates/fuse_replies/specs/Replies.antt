-- What a reply to a request of a row is: a header, and an error or a body of the row's shape.
use Rattle.std.specs.Prelude.{◌≡◌, ◌≢◌, ◌≤◌, ◌<◌, ℕ, ◌+◌, ◌-◌, ◌^◌, ◌==◌, ◌⊎◌, MatchBool, if◌then◌else◌, List, length, drop}
use Rattle.fk_fields.specs.Fields.{number_at}
use Rattle.fuse_protocol.specs.declared.agreed.Agreed.{Agreed}
use Rattle.fuse_protocol.specs.declared.init.InitReply.{InitReply}
use Rattle.fuse_protocol.specs.declared.row.ReplyShape.{ReplyShape}
use Rattle.fuse_protocol.specs.declared.row.ReplyShape.TheVariants as reply
use Rattle.fuse_protocol.specs.Places.{bytes_in}
use Rattle.fuse_protocol.specs.Requests.{max_frame}
use Rattle.fuse_replies.specs.declared.entry.Entry.{Entry}
use Rattle.fuse_replies.specs.declared.entry.ValidAttributes.{ValidAttributes}
use Rattle.fuse_replies.specs.declared.entry.Opened.{Opened}
use Rattle.fuse_replies.specs.declared.fault.ReplyFault.{ReplyFault}
use Rattle.fuse_replies.specs.declared.fault.ReplyFault.TheVariants as faults
use Rattle.fuse_replies.specs.declared.reply.Reply.{Reply}
use Rattle.fuse_replies.specs.declared.reply.Answer.{Answer}
use Rattle.fuse_replies.specs.declared.reply.Answer.TheVariants as view
use Rattle.fuse_replies.specs.Entries.{entry_at, valid_attributes_at, opened_at}
use Rattle.fuse_protocol.specs.Init.{init_reply_at}
use Rattle.fuse_replies.specs.Record.{RecordContent, EntryRecordContent}
use Rattle.fuse_replies.specs.Records.{records_from, entry_records_from, records_in, entry_records_in, AreListed, AreListedPlus}

-- What a reply says, without where its body lies in memory.
pub data AnswerContent : Type 0 where
  failed : (errno : ℕ) → AnswerContent
  done : AnswerContent
  entry : Entry → AnswerContent
  attributes : ValidAttributes → AnswerContent
  opened : Opened → AnswerContent
  created : Entry → Opened → AnswerContent
  number : ℕ → AnswerContent
  raw : List ℕ → AnswerContent
  records : List RecordContent → AnswerContent
  entry_records : List EntryRecordContent → AnswerContent
  init : InitReply → AnswerContent

pub record ReplyMessage : Type 0 where
  pub unique : ℕ
  pub answer : AnswerContent

abbrev pub answer_content : Answer → AnswerContent
answer_content (view.Failed errno) = failed errno
answer_content view.Done = done
answer_content (view.Entry e) = entry e
answer_content (view.Attributes a) = attributes a
answer_content (view.Opened o) = opened o
answer_content (view.Created e o) = created e o
answer_content (view.Number n) = number n
answer_content (view.Bytes bytes) = raw bytes.now
answer_content (view.Records rs) = records (records_in rs)
answer_content (view.EntryRecords rs) = entry_records (entry_records_in rs)
answer_content (view.Init i) = init i

abbrev pub reply_message : Reply → ReplyMessage
reply_message r = record { unique = r.unique; answer = answer_content r.answer }

-- A body of this shape may have so many bytes, where so many were asked for.
abbrev pub HasSize : ReplyShape → ℕ → ℕ → Type 0
HasSize reply.None asked size = ⊥
HasSize reply.Empty asked size = size ≡ 0
HasSize reply.Entry asked size = size ≡ 128
HasSize reply.Attributes asked size = size ≡ 104
HasSize reply.Open asked size = size ≡ 16
HasSize reply.EntryAndOpen asked size = size ≡ 144
HasSize (reply.Number width) asked size = size ≡ 8
HasSize (reply.Fixed count) asked size = size ≡ count
HasSize (reply.AtMost place) asked size = size ≤ asked
HasSize (reply.Records place) asked size = size ≤ asked
HasSize (reply.EntryRecords place) asked size = size ≤ asked
HasSize (reply.Sized place) asked size = MatchBool (asked == 0) (size ≡ 8) (size ≤ asked)
HasSize reply.Target asked size = (1 ≤ size) × (size ≤ 4095)
HasSize reply.Ioctl asked size = 16 ≤ size
HasSize reply.Init asked size = (size ≡ 8) ⊎ ((size ≡ 24) ⊎ (size ≡ 64))

-- what a body of this shape says
abbrev pub content_at : ReplyShape → ℕ → List ℕ → AnswerContent
content_at reply.Entry asked bytes = entry (entry_at 16 bytes)
content_at reply.Attributes asked bytes = attributes (valid_attributes_at 16 bytes)
content_at reply.Open asked bytes = opened (opened_at 16 bytes)
content_at reply.EntryAndOpen asked bytes = created (entry_at 16 bytes) (opened_at 144 bytes)
content_at (reply.Number width) asked bytes = number (number_at 16 (bytes_in width) bytes)
content_at (reply.Fixed count) asked bytes = raw (drop 16 bytes)
content_at (reply.AtMost place) asked bytes = raw (drop 16 bytes)
content_at (reply.Records place) asked bytes = records (records_from 16 bytes)
content_at (reply.EntryRecords place) asked bytes = entry_records (entry_records_from 16 bytes)
content_at (reply.Sized place) asked bytes =
    if asked == 0 then number (number_at 16 4 bytes) else raw (drop 16 bytes)
content_at reply.Target asked bytes = raw (drop 16 bytes)
content_at reply.Ioctl asked bytes = raw (drop 16 bytes)
content_at reply.Init asked bytes = init (init_reply_at bytes)
content_at _ asked bytes = done

-- the error number that a reply's header has negated
abbrev pub errno_in : List ℕ → ℕ
errno_in bytes = 2 ^ 32 - number_at 4 4 bytes

-- what a reply says: an error, or its body
abbrev pub answer_at : ReplyShape → ℕ → List ℕ → AnswerContent
answer_at shape asked bytes = if number_at 4 4 bytes == 0 then content_at shape asked bytes else failed (errno_in bytes)

-- The names in a listing are names.
abbrev pub HasNames : Agreed → ReplyShape → List ℕ → Type 0
HasNames agreed (reply.Records place) bytes = AreListed agreed (records_from 16 bytes)
HasNames agreed (reply.EntryRecords place) bytes = AreListedPlus agreed (entry_records_from 16 bytes)
HasNames agreed _ bytes = Unit {0}

-- The error is 0, or a negated number from 1 to 511.
abbrev pub IsErrorWord : ℕ → Type 0
IsErrorWord word = (word ≡ 0) ⊎ (2 ^ 32 ≤ word + 511)

-- The body has its shape's size, and none stands behind an error.
abbrev pub IsBody : ReplyShape → ℕ → List ℕ → Type 0
IsBody shape asked bytes = MatchBool (number_at 4 4 bytes == 0) (HasSize shape asked (length bytes - 16))
    (length bytes ≡ 16)

-- Where there is no error the names are names.
abbrev pub AreNamed : Agreed → ReplyShape → List ℕ → Type 0
AreNamed agreed shape bytes = MatchBool (number_at 4 4 bytes == 0) (HasNames agreed shape bytes) (Unit {0})

-- The header is whole, and the frame as long as it says: struct fuse_out_header, len, error, unique.
abbrev pub IsFrame : List ℕ → Type 0
IsFrame bytes = (16 ≤ length bytes) × (length bytes ≤ max_frame) × (number_at 0 4 bytes ≡ length bytes)

-- The bytes are a reply to a request of which this shape is wanted, and so many bytes where it asks for bytes.
pub record IsReply (agreed : Agreed) (shape : ReplyShape) (asked : ℕ) (bytes : List ℕ) (r : ReplyMessage) : Type 0 where
  pub wanted : shape ≢ reply.None
  pub frame : IsFrame bytes
  pub error : IsErrorWord (number_at 4 4 bytes)
  pub body : IsBody shape asked bytes
  pub names : AreNamed agreed shape bytes
  pub unique : number_at 8 8 bytes ≡ r.unique
  pub answer : answer_at shape asked bytes ≡ r.answer

-- The faults that a header shows.
abbrev pub IsHeaderFault : List ℕ → ReplyFault → Type 0
IsHeaderFault bytes faults.Short = length bytes < 16
IsHeaderFault bytes faults.Length = (16 ≤ length bytes) × (IsFrame bytes → ⊥)
IsHeaderFault bytes _ = ⊥

-- The first fault behind a header, each where those before it do not apply.
abbrev pub BodyFaultIs : Agreed → ReplyShape → ℕ → List ℕ → ReplyFault → Type 0
BodyFaultIs agreed shape asked bytes faults.Error = IsErrorWord (number_at 4 4 bytes) → ⊥
BodyFaultIs agreed shape asked bytes faults.Body = IsErrorWord (number_at 4 4 bytes)
    × (IsBody shape asked bytes → ⊥)
BodyFaultIs agreed shape asked bytes faults.Name = IsErrorWord (number_at 4 4 bytes)
    × IsBody shape asked bytes × (AreNamed agreed shape bytes → ⊥)
BodyFaultIs agreed shape asked bytes _ = ⊥

-- The first fault of a reply.
abbrev pub ReplyFaultIs : Agreed → ReplyShape → ℕ → List ℕ → ReplyFault → Type 0
ReplyFaultIs agreed shape asked bytes faults.Unwanted = shape ≡ reply.None
ReplyFaultIs agreed shape asked bytes f = (shape ≢ reply.None)
    × (IsHeaderFault bytes f ⊎ (IsFrame bytes × BodyFaultIs agreed shape asked bytes f))
