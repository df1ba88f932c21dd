-- The acts that an accepted reply is, by what its request asked.
use Rattle.std.specs.Prelude.{ℕ, ◌^◌, Bool, true, false, ◌&&◌, ◌||◌, not, List, [], ◌∷◌, ◌++◌, codes, map, nat_eq, nat_lt, bit_and, if◌then◌else◌}
use Rattle.std.specs.List.{list_any, flat_map}
use Rattle.fuse_protocol.specs.declared.opcode.Opcode.{Opcode}
use Rattle.fuse_protocol.specs.declared.opcode.Opcode.TheVariants as op
use Rattle.fuse_replies.specs.declared.entry.Entry.{Entry}
use Rattle.fuse_replies.specs.declared.entry.Attributes.{Attributes}
use Rattle.fuse_replies.specs.Record.{EntryRecordContent}
use Rattle.fuse_replies.specs.Replies.{AnswerContent}
use Rattle.fuse_replies.specs.Replies as answer
use Rattle.fuse_sessions.specs.declared.act.Act.{Act}
use Rattle.fuse_sessions.specs.declared.act.Act.TheVariants.{Faulty, Agrees, Gives, Describes, Opens, OpensNone}
use Rattle.fuse_sessions.specs.declared.act.Asked.{Asked}
use Rattle.fuse_sessions.specs.declared.act.File.{File}
use Rattle.fuse_sessions.specs.declared.act.OpenKind.TheVariants as kind
use Rattle.fuse_sessions.specs.declared.fault.Fault.TheVariants as fault
use Rattle.fuse_sessions.specs.RequestActs.{is_name}
use Rattle.fuse_sessions.specs.Warnings.{listing_acts, missing_acts}

-- ENOSYS
abbrev pub enosys : ℕ
enosys = 38

-- the type's bits of a mode, octal 0170000
abbrev pub kind_of : Attributes → ℕ
kind_of a = bit_and a.mode 61440

-- octal 0010000, 0020000, 0040000, 0060000, 0100000, 0120000, 0140000: a FIFO, a device of characters, a directory, a
-- device of blocks, a regular file, a link, a socket (stat(2))
abbrev pub kinds : List ℕ
kinds = 4096 ∷ 8192 ∷ 16384 ∷ 24576 ∷ 32768 ∷ 40960 ∷ 49152 ∷ []

abbrev pub is_kind : ℕ → Bool
is_kind k = list_any (nat_eq k) kinds

abbrev pub file_of : Entry → File
file_of e = record { generation = e.generation; kind = kind_of e.attributes; ino = e.attributes.ino }

-- The file of an entry is of the kind that its request makes.
abbrev pub is_made : Asked → Entry → Bool
is_made a e = nat_eq a.makes 0 || nat_eq a.makes (kind_of e.attributes)

-- Linux takes an entry whose file has a kind, that which was asked for, and a size that fits. Of another it counts the
-- node or not, by the way that the entry came. (linux/fs/fuse/dir.c)
abbrev pub is_counted : Asked → Entry → Bool
is_counted a e = is_kind (kind_of e.attributes) && (is_made a e && nat_lt e.attributes.size (2 ^ 63))

-- a missing name has an entry of node 0 in a LOOKUP and a READDIRPLUS alone
abbrev pub may_be_missing : Opcode → Bool
may_be_missing op.Lookup = true
may_be_missing op.Readdirplus = true
may_be_missing o = false

abbrev pub kind_acts : Asked → Entry → List Act
kind_acts a e = if is_kind (kind_of e.attributes)
    then (if is_made a e then [] else Faulty fault.EntryOfAnotherKind ∷ []) else Faulty fault.EntryOfNoKind ∷ []

-- an entry gives its node; whether Linux comes to it is certain, or not
abbrev pub gift_acts : (certain : Bool) → Asked → Entry → List Act
gift_acts certain a e = kind_acts a e ++ Gives e.nodeid (file_of e) (certain && is_counted a e) ∷ []

-- The root is no file that a name may have, but where `.` or `..` was asked for; and there it is never counted.
abbrev pub root_acts : Asked → List Act
root_acts a = if a.is_dots then [] else Faulty fault.EntryOfTheRoot ∷ []

-- what an entry is, in a reply to a request of an opcode
abbrev pub entry_acts : (certain : Bool) → Opcode → Asked → Entry → List Act
entry_acts certain o a e = if nat_eq e.nodeid 1 then root_acts a else (
    if nat_eq e.nodeid 0 then (if may_be_missing o then [] else Faulty fault.EntryOfNoNode ∷ [])
    else gift_acts certain a e)

-- A record of `.` or `..` counts nothing. (linux/fs/fuse/readdir.c)
abbrev pub record_acts : (certain : Bool) → Asked → EntryRecordContent → List Act
record_acts certain a r = if is_name r.said.name (codes ".") || is_name r.said.name (codes "..") then []
    else entry_acts certain op.Readdirplus a r.entry

-- Linux takes the entry of a file that it creates and opens, or leaves the file unopened. (linux/fs/fuse/dir.c,
-- `fuse_create_open`)
abbrev pub is_opened : Asked → Entry → Bool
is_opened a e = is_counted a e && not (nat_eq e.nodeid 0 || nat_eq e.nodeid 1)

-- a file that is open from now on
abbrev pub opening : Opcode → (node fh : ℕ) → List Act
opening op.Open node fh = Opens (record { kind = kind.File; nodeid = node; fh = fh }) ∷ []
opening op.Opendir node fh = Opens (record { kind = kind.Directory; nodeid = node; fh = fh }) ∷ []
opening op.Create node fh = Opens (record { kind = kind.File; nodeid = node; fh = fh }) ∷ []
opening op.Tmpfile node fh = Opens (record { kind = kind.File; nodeid = node; fh = fh }) ∷ []
opening o node fh = []

abbrev pub opening_none : Opcode → List Act
opening_none op.Open = OpensNone kind.File ∷ []
opening_none op.Opendir = OpensNone kind.Directory ∷ []
opening_none o = []

-- what an error says, besides that the request failed
abbrev pub failed_acts : Opcode → (node errno : ℕ) → List Act
failed_acts o node errno = (if nat_eq errno enosys then opening_none o else []) ++ missing_acts o node errno

-- Of WRITE and of the copies the number is how many bytes were written.
abbrev pub counting : Opcode → (said most : ℕ) → List Act
counting op.Write said most = if nat_lt most said then Faulty fault.MoreThanWasAsked ∷ [] else []
counting op.CopyFileRange said most = if nat_lt most said then Faulty fault.MoreThanWasAsked ∷ [] else []
counting op.CopyFileRange64 said most = if nat_lt most said then Faulty fault.MoreThanWasAsked ∷ [] else []
counting o said most = []

-- The acts of what an accepted reply says to a request of an opcode.
abbrev pub answer_acts : Opcode → Asked → AnswerContent → List Act
answer_acts o a (answer.failed errno) = failed_acts o a.nodeid errno
answer_acts o a (answer.entry e) = entry_acts true o a e
answer_acts o a (answer.attributes v) = Describes a.nodeid (kind_of v.attributes) v.attributes.ino ∷ []
answer_acts o a (answer.opened file) = opening o a.nodeid file.handle
answer_acts o a (answer.created e file) =
    entry_acts true o a e ++ (if is_opened a e then opening o e.nodeid file.handle else [])
answer_acts o a (answer.number n) = counting o n a.writes
answer_acts o a (answer.records rs) = listing_acts a.lists_from (map (λ r. r.off) rs)
answer_acts o a (answer.entry_records rs) =
    flat_map (record_acts true a) rs ++ listing_acts a.lists_from (map (λ r. r.said.off) rs)
answer_acts o a (answer.init i) = Agrees i.max_write ∷ []
answer_acts o a other = []
