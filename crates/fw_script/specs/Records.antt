-- The lines that are printed.
use Rattle.std.specs.Prelude.{ℕ, List, [], ◌∷◌, ◌++◌, Option, Some, None, ◌&&◌}
use Rattle.std.specs.Prelude.{nat_le, if◌then◌else◌, codes, decimal, flat_map, map}
use Rattle.hex.specs.Hex.{encode_lower}
use Rattle.fk_wire.specs.Opcodes.{name_of}
use Rattle.fuse_spec.specs.Files.Operations.{Dirent}
use Rattle.fw_world.specs.declared.event.Outcome.{Outcome}
use Rattle.fw_world.specs.declared.event.Outcome.TheVariants as outcome
use Rattle.fuse_spec.specs.declared.Taken.{Taken}
use Rattle.fuse_spec.specs.declared.Taken.TheVariants as taken
use Rattle.fuse_spec.specs.declared.IntrEffect.{IntrEffect}
use Rattle.fuse_spec.specs.declared.IntrEffect.TheVariants as effect
use Rattle.fuse_spec.specs.declared.WriteResult.{WriteResult}
use Rattle.fuse_spec.specs.declared.WriteResult.TheVariants as written
use Rattle.fuse_spec.specs.declared.Attributes.{Attributes}
use Rattle.fuse_spec.specs.declared.Refusal.{Refusal}
use Rattle.fuse_spec.specs.declared.Refusal.TheVariants as refusal
use Rattle.fuse_spec.specs.declared.Kind.{Kind}
use Rattle.fuse_spec.specs.declared.Kind.TheVariants as kind
use Rattle.fk_syscalls.specs.declared.call.Answer.{Answer}
use Rattle.fk_syscalls.specs.declared.call.Answer.TheVariants as answer
use Rattle.fw_world.specs.declared.record.Record.{Record}
use Rattle.fw_world.specs.declared.record.Record.TheVariants as records
use Rattle.fuse_text.specs.HexTexts.{hex_or_none}

-- what became of a taken request
abbrev pub taken_word : Taken → List ℕ
taken_word taken.Held = codes "held"
taken_word taken.Forgot = codes "forgot"
taken_word taken.Marked = codes "marked"
taken_word taken.Ignored = codes "ignored"
taken_word taken.Again = codes "again"

-- what a signal did
abbrev pub effect_word : IntrEffect → List ℕ
effect_word effect.Dequeued = codes "dequeued"
effect_word effect.Flagged = codes "flagged"
effect_word effect.Queued = codes "queued"
effect_word effect.None = codes "none"

-- the result of a reply's write, by its error number: 0, ENOENT or EINVAL
abbrev pub result_number : WriteResult → List ℕ
result_number written.Accepted = codes "0"
result_number written.NoEntry = codes "2"
result_number written.Invalid = codes "22"

-- the kind of a file
abbrev pub kind_word : Kind → List ℕ
kind_word kind.Directory = codes "dir"
kind_word kind.Regular = codes "file"
kind_word kind.Other = codes "other"

-- the number of a refusal, and its name
abbrev pub refusal_number : Refusal → ℕ
refusal_number refusal.NoMemory = 1
refusal_number refusal.NoSuch = 2
refusal_number refusal.InterruptFirst = 3
refusal_number refusal.NotReady = 4
refusal_number refusal.Busy = 5
refusal_number refusal.NoCopy = 6
refusal_number refusal.Full = 7
refusal_number refusal.Exhausted = 8
refusal_number refusal.BadTime = 9
refusal_number refusal.LinkLost = 10

abbrev pub refusal_name : Refusal → List ℕ
refusal_name refusal.NoMemory = codes "NoMemory"
refusal_name refusal.NoSuch = codes "NoSuch"
refusal_name refusal.InterruptFirst = codes "InterruptFirst"
refusal_name refusal.NotReady = codes "NotReady"
refusal_name refusal.Busy = codes "Busy"
refusal_name refusal.NoCopy = codes "NoCopy"
refusal_name refusal.Full = codes "Full"
refusal_name refusal.Exhausted = codes "Exhausted"
refusal_name refusal.BadTime = codes "BadTime"
refusal_name refusal.LinkLost = codes "LinkLost"

-- an outcome's line, without its line feed
abbrev pub outcome_line : Outcome → List ℕ
outcome_line outcome.Mounted = codes "mounted"
outcome_line (outcome.Begun call) = codes "call " ++ decimal call
outcome_line (outcome.Read unique opcode len) =
    codes "read " ++ decimal unique ++ codes " " ++ name_of opcode ++ codes " " ++ decimal len
outcome_line (outcome.Taken unique word) = codes "taken " ++ decimal unique ++ codes " " ++ taken_word word
outcome_line (outcome.Done unique errno len) =
    codes "done " ++ decimal unique ++ codes " " ++ decimal errno ++ codes " " ++ decimal len
outcome_line (outcome.Lost unique errno) = codes "done " ++ decimal unique ++ codes " " ++ decimal errno
    ++ codes " lost"
outcome_line (outcome.SentAgain unique len) = codes "again " ++ decimal unique ++ codes " " ++ decimal len
outcome_line (outcome.Written unique result) = codes "written " ++ decimal unique ++ codes " " ++ result_number result
outcome_line (outcome.Settled unique result) = codes "settled " ++ decimal unique ++ codes " " ++ result_number result
outcome_line (outcome.Interrupted call effect) = codes "interrupted " ++ decimal call ++ codes " " ++ effect_word effect
outcome_line (outcome.Now clock) = codes "now " ++ decimal clock
outcome_line outcome.Dropped = codes "dropped"
outcome_line (outcome.Evicted node count) = codes "evicted " ++ decimal node ++ codes " " ++ decimal count
outcome_line outcome.Aborted = codes "aborted"

-- `?` stands for a byte of a name that is outside 33 to 126
abbrev pub shown_byte : ℕ → ℕ
shown_byte byte = if nat_le 33 byte && nat_le byte 126 then byte else 63

-- a listed name: the name, the offset from which to read on, the kind
abbrev pub listed_words : Dirent → List ℕ
listed_words listed =
    codes " " ++ map shown_byte listed.name ++ codes ":" ++ decimal listed.offset ++ codes ":"
    ++ kind_word listed.kind

abbrev pub attributes_words : Attributes → List ℕ
attributes_words a =
    codes "0 " ++ kind_word a.kind ++ codes " " ++ decimal a.ino ++ codes " " ++ decimal a.size ++ codes " "
    ++ decimal a.nlink

-- the rest of an answer's line, after the call's number
abbrev pub answer_words : {A : Type 0} → Answer A → List ℕ
answer_words answer.Done = codes "0"
answer_words (answer.Attributes a) = attributes_words a
answer_words (answer.Listing names) = codes "0" ++ flat_map listed_words names
answer_words (answer.Content bytes) = codes "0 " ++ hex_or_none bytes.items
answer_words (answer.Written size) = codes "0 " ++ decimal size
answer_words (answer.Failed errno) = decimal errno

-- the line of an answered call
abbrev pub answer_text : {A : Type 0} → ℕ → Answer A → List ℕ
answer_text call a = codes "answer " ++ decimal call ++ codes " " ++ answer_words a ++ codes "\n"

-- a record's line
abbrev pub record_text : {A : Type 0} → Record A → List ℕ
record_text (records.Outcome o) = outcome_line o ++ codes "\n"
record_text (records.Refused r) = codes "refused " ++ decimal (refusal_number r) ++ codes " " ++ refusal_name r
    ++ codes "\n"
record_text records.LinkLost = codes "link lost\n"
record_text (records.Answered call a) = answer_text call a

-- the line of a frame that was put
abbrev pub frame_text : List ℕ → List ℕ
frame_text frame = codes "frame " ++ encode_lower frame ++ codes "\n"

abbrev pub put_text : Option (List ℕ) → List ℕ
put_text None = []
put_text (Some frame) = frame_text frame

-- the lines of an event: its own, that of the frame that was put, those of the answers
abbrev pub event_text : {A : Type 0} → List (Record A) → Option (List ℕ) → List ℕ
event_text [] frame = []
event_text (first ∷ answers) frame = record_text first ++ put_text frame ++ flat_map record_text answers
