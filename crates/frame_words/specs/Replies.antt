-- What a reply and a notification say, in words.
use Rattle.std.specs.Prelude.{ℕ, List, [], ◌++◌, ◌+◌, ◌*◌, ◌/◌, ◌==◌, if◌then◌else◌, codes, decimal, bit_and, flat_map, map}
use Rattle.fuse_protocol.specs.declared.init.InitReply.{InitReply}
use Rattle.fuse_protocol.specs.declared.opcode.Opcode.{Opcode}
use Rattle.fuse_protocol.specs.Table.{name_of}
use Rattle.fuse_replies.specs.declared.entry.Attributes.{Attributes}
use Rattle.fuse_replies.specs.declared.entry.Entry.{Entry}
use Rattle.fuse_replies.specs.declared.entry.Opened.{Opened}
use Rattle.fuse_replies.specs.declared.entry.Validity.{Validity}
use Rattle.fuse_replies.specs.declared.notification.NotificationKind.{NotificationKind}
use Rattle.fuse_replies.specs.NotificationTable.{name_of as kind_name}
use Rattle.fuse_replies.specs.Notifications.{NotificationContent, kind_of}
use Rattle.fuse_replies.specs.Notifications as said
use Rattle.fuse_replies.specs.Record.{RecordContent, EntryRecordContent}
use Rattle.fuse_replies.specs.Replies.{AnswerContent, ReplyMessage}
use Rattle.fuse_replies.specs.Replies as answer
use Rattle.frame_words.specs.Errors.{error_words}
use Rattle.frame_words.specs.InitFlags.{init_flag_words}
use Rattle.frame_words.specs.Words.{data_words, name_words, number_words}
use Rattle.fuse_text.specs.Printed.{printed_byte}

-- the kind of a file, by the four type bits
unfoldable pub type_word : ℕ → List ℕ
type_word kind = if kind == 1 then codes "fifo" else
    (if kind == 2 then codes "char" else
    (if kind == 4 then codes "dir" else
    (if kind == 6 then codes "block" else
    (if kind == 8 then codes "file" else
    (if kind == 10 then codes "link" else
    (if kind == 12 then codes "socket" else codes "unknown"))))))

-- the kind of a file, by its mode, of which the type bits are octal 0170000
abbrev pub mode_word : ℕ → List ℕ
mode_word mode = type_word (bit_and mode 61440 / 4096)

unfoldable pub attributes_words : Attributes → List ℕ
attributes_words a = codes " " ++ mode_word a.mode ++ number_words (codes "ino") a.ino
    ++ number_words (codes "size") a.size ++ number_words (codes "nlink") a.nlink

-- for how long, in whole milliseconds
unfoldable pub validity_words : Validity → List ℕ
validity_words v = codes " valid " ++ decimal (v.seconds * 1000 + v.nanoseconds / 1000000) ++ codes " ms"

-- of a missing name its validity alone
unfoldable pub missing_words : Entry → List ℕ
missing_words e = codes " entry node 0" ++ validity_words e.name_validity

unfoldable pub found_words : Entry → List ℕ
found_words e = codes " entry" ++ number_words (codes "node") e.nodeid
    ++ number_words (codes "generation") e.generation ++ validity_words e.name_validity ++ attributes_words e.attributes

abbrev pub entry_words : Entry → List ℕ
entry_words e = if e.nodeid == 0 then missing_words e else found_words e

abbrev pub opened_words : Opened → List ℕ
opened_words o = number_words (codes "fh") o.handle

-- ` NAME:OFF:KIND`
abbrev pub record_words : RecordContent → List ℕ
record_words r = codes " " ++ map printed_byte r.name ++ codes ":" ++ decimal r.off ++ codes ":" ++ type_word r.kind

abbrev pub entry_record_words : EntryRecordContent → List ℕ
entry_record_words r = record_words r.said ++ entry_words r.entry

unfoldable pub init_reply_words : InitReply → List ℕ
init_reply_words i = number_words (codes "major") i.major ++ number_words (codes "minor") i.minor
    ++ number_words (codes "max_write") i.max_write ++ init_flag_words i.flags

abbrev pub answer_words : AnswerContent → List ℕ
answer_words (answer.failed errno) = []
answer_words answer.done = []
answer_words (answer.entry e) = entry_words e
answer_words (answer.attributes a) = codes " attr" ++ attributes_words a.attributes
answer_words (answer.opened o) = opened_words o
answer_words (answer.created e o) = entry_words e ++ opened_words o
answer_words (answer.number n) = number_words (codes "size") n
answer_words (answer.raw bytes) = data_words bytes
answer_words (answer.records rs) = flat_map record_words rs
answer_words (answer.entry_records rs) = flat_map entry_record_words rs
answer_words (answer.init i) = init_reply_words i

-- its error's name, or 0
abbrev pub result_words : AnswerContent → List ℕ
result_words (answer.failed errno) = error_words errno
result_words other = codes "0"

-- `OPNAME UNIQUE ERROR LEN` of a reply to a request of this opcode, in a frame of so many bytes, and what it says
abbrev pub reply_words : Opcode → ReplyMessage → (len : ℕ) → List ℕ
reply_words o m len = name_of o ++ codes " " ++ decimal m.unique ++ codes " " ++ result_words m.answer ++ codes " "
    ++ decimal len ++ answer_words m.answer

-- ---- notifications

abbrev pub node_words : ℕ → List ℕ
node_words nodeid = codes " " ++ decimal nodeid

unfoldable pub nodes_words : List ℕ → List ℕ
nodes_words nodeids = codes " nodes" ++ flat_map node_words nodeids

abbrev pub content_words : NotificationContent → List ℕ
content_words (said.poll handle) = number_words (codes "kh") handle
content_words (said.inval_inode nodeid offset size) = number_words (codes "node") nodeid
content_words (said.inval_entry parent flags name) = number_words (codes "node") parent ++ name_words (codes "name") name
content_words (said.store nodeid offset bytes) = number_words (codes "node") nodeid
    ++ number_words (codes "offset") offset ++ data_words bytes
content_words (said.retrieve unique nodeid offset size) = number_words (codes "unique") unique
    ++ number_words (codes "node") nodeid ++ number_words (codes "offset") offset ++ number_words (codes "size") size
content_words (said.delete parent child name) = number_words (codes "node") parent
    ++ number_words (codes "child") child ++ name_words (codes "name") name
content_words said.resend = []
content_words said.inc_epoch = []
content_words (said.prune nodeids) = nodes_words nodeids

-- `notification NAME LEN`
unfoldable pub notification_head : NotificationKind → (len : ℕ) → List ℕ
notification_head kind len = codes "notification " ++ kind_name kind ++ codes " " ++ decimal len

-- the same, and what it says
abbrev pub notification_words : NotificationContent → (len : ℕ) → List ℕ
notification_words m len = notification_head (kind_of m) len ++ content_words m
