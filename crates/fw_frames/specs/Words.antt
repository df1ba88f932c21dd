-- What requests and replies say, in words.
use Rattle.std.specs.Prelude.{ℕ, List, [], ◌++◌, ◌+◌, ◌*◌, ◌/◌, ◌==◌, ◌&&◌, nat_le, if◌then◌else◌, codes, decimal}
use Rattle.std.specs.Prelude.{flat_map, length, map}
use Rattle.std.specs.Int.RustNames.{bit_and}
use Rattle.fk_wire.specs.declared.entry.Attr.{Attr}
use Rattle.fk_wire.specs.Entries.{EntryContent, missing, found}
use Rattle.fk_wire.specs.Dirents.{DirentContent, DirentPlusContent}
use Rattle.fk_wire.specs.Replies.{ReplyContent, empty_reply, entry_reply, attr_reply, open_reply, bytes_reply}
use Rattle.fk_wire.specs.Replies.{write_reply, init_reply, create_reply, records_reply, plus_reply}
use Rattle.fk_wire.specs.Requests.{RequestContent, lookup, forget, getattr, mkdir, unlink, rmdir, rename, link}
use Rattle.fk_wire.specs.Requests.{opening, read, write, release, init, readdir, readdirplus, create, interrupt}
use Rattle.fk_wire.specs.Requests.{batch_forget}
use Rattle.fuse_text.specs.HexTexts.{hex_or_none}
use Rattle.fuse_text.specs.Printed.{printed_byte}

-- a flag's name, where a number has its bit
unfoldable pub flag_word : (flags bit : ℕ) → List ℕ → List ℕ
flag_word flags bit name = if bit_and flags bit == 0 then [] else name

-- the known flags of INIT, by their bits
abbrev pub flag_words : ℕ → List ℕ
flag_words flags = codes " flags" ++ flag_word flags 1 (codes " ASYNC_READ")
    ++ flag_word flags 0x2000 (codes " DO_READDIRPLUS") ++ flag_word flags 0x40000 (codes " PARALLEL_DIROPS")

abbrev name_words : List ℕ → List ℕ
name_words name = codes " name " ++ map printed_byte name

abbrev pub range_words : (offset size : ℕ) → List ℕ
range_words offset size = codes " offset " ++ decimal offset ++ codes " size " ++ decimal size

-- a pair of a BATCH_FORGET
abbrev pub pair_words : ℕ × ℕ → List ℕ
pair_words pair = codes " " ++ decimal pair.0 ++ codes ":" ++ decimal pair.1

-- the fields of a request, each after a space
abbrev pub request_words : RequestContent → List ℕ
request_words (lookup name) = name_words name
request_words (forget nlookup) = codes " nlookup " ++ decimal nlookup
request_words getattr = []
request_words (mkdir name) = name_words name
request_words (unlink name) = name_words name
request_words (rmdir name) = name_words name
request_words (rename newdir old new) = codes " newdir " ++ decimal newdir ++ codes " old " ++ map printed_byte old
    ++ codes " new " ++ map printed_byte new
request_words (link oldnodeid name) = codes " oldnodeid " ++ decimal oldnodeid ++ name_words name
request_words opening = []
request_words (read fh offset size) = codes " fh " ++ decimal fh ++ range_words offset size
request_words (write fh offset bytes) = codes " fh " ++ decimal fh ++ range_words offset (length bytes)
    ++ codes " data " ++ hex_or_none bytes
request_words (release fh) = codes " fh " ++ decimal fh
request_words (init major minor flags) = codes " major " ++ decimal major ++ codes " minor " ++ decimal minor
    ++ flag_words flags
request_words (readdir offset size) = range_words offset size
request_words (readdirplus offset size) = range_words offset size
request_words (create name) = name_words name
request_words (interrupt unique) = codes " unique " ++ decimal unique
request_words (batch_forget forgets) = codes " forget" ++ flat_map pair_words forgets

-- the kind of a file, by the type bits of its mode: octal 0170000, of which 040000 is a directory and 0100000 a file
unfoldable pub mode_word : ℕ → List ℕ
mode_word mode = if bit_and mode 61440 == 16384 then codes "dir"
    else (if bit_and mode 61440 == 32768 then codes "file" else codes "other")

-- the kind of a record's file, by its type
unfoldable pub type_word : ℕ → List ℕ
type_word kind = if kind == 4 then codes "dir" else (if kind == 8 then codes "file" else codes "other")

unfoldable pub attr_words : Attr → List ℕ
attr_words a = codes " " ++ mode_word a.mode ++ codes " ino " ++ decimal a.ino ++ codes " size " ++ decimal a.size
    ++ codes " nlink " ++ decimal a.nlink

-- how long an entry is valid, in whole milliseconds
unfoldable pub valid_words : (seconds nanoseconds : ℕ) → List ℕ
valid_words seconds nanoseconds = codes " valid " ++ decimal (seconds * 1000 + nanoseconds / 1000000) ++ codes " ms"

unfoldable pub nodeid_words : (nodeid generation : ℕ) → List ℕ
nodeid_words nodeid generation = codes " entry node " ++ decimal nodeid ++ codes " generation " ++ decimal generation

abbrev pub entry_words : EntryContent → List ℕ
entry_words (missing seconds nanoseconds) = codes " entry node 0" ++ valid_words seconds nanoseconds
entry_words (found nodeid generation seconds nanoseconds a) = nodeid_words nodeid generation
    ++ valid_words seconds nanoseconds ++ attr_words a

abbrev pub open_words : ℕ → List ℕ
open_words fh = codes " open " ++ decimal fh

-- a record of a READDIR
abbrev pub dirent_words : DirentContent → List ℕ
dirent_words d = codes " " ++ map printed_byte d.name ++ codes ":" ++ decimal d.off ++ codes ":" ++ type_word d.kind

-- a record of a READDIRPLUS, and its entry
abbrev pub direntplus_words : DirentPlusContent → List ℕ
direntplus_words p = dirent_words p.dirent ++ entry_words p.entry_out

-- what a reply says, each word after a space
abbrev pub reply_words : ReplyContent → List ℕ
reply_words empty_reply = []
reply_words (entry_reply e) = entry_words e
reply_words (attr_reply a) = codes " attr" ++ attr_words a
reply_words (open_reply fh) = open_words fh
reply_words (bytes_reply bytes) = codes " data " ++ hex_or_none bytes
reply_words (write_reply size) = codes " size " ++ decimal size
reply_words (init_reply major minor flags) = codes " major " ++ decimal major ++ codes " minor " ++ decimal minor
    ++ flag_words flags
reply_words (create_reply e fh) = entry_words e ++ open_words fh
reply_words (records_reply ds) = flat_map dirent_words ds
reply_words (plus_reply ps) = flat_map direntplus_words ps
