-- What is printed beside what the moves of a run come to.
use Rattle.std.specs.Prelude.{◌++◌, [], ℕ, List, Option, Some, None, codes, decimal, flat_map, if◌then◌else◌, nat_lt}
use Rattle.fk_syscalls.specs.declared.call.Answer.{Answer}
use Rattle.fk_syscalls.specs.declared.call.Answer.TheVariants as answers
use Rattle.frame_words.specs.Errors.{error_name}
use Rattle.fw_script.specs.Records.{answer_words}
use Rattle.fw_drive.specs.Faults.{fault_words}
use Rattle.fw_drive.specs.declared.fault.Fault.{Fault}

pub data Note (A : Type 0) : Type 0 where
  -- what the server did wrong
  wrong : Fault → Note A
  -- a notification came, with this code and this length
  notification : (code len : ℕ) → Note A
  -- an agreement on 7.23 to 7.30 was handed on as one on 7.31
  raised : (minor : ℕ) → Note A
  -- a call, which began with these words in this line, has another answer in the world beside
  differs : (call : ℕ) → (words : List ℕ) → (line : ℕ) → (answer here : Answer A) → Note A
  -- so many answers were compared with that world's, and so many differ
  compared : (answers differences : ℕ) → Note A

-- ---- answers that differ

-- the name of an error, before its number
abbrev pub name_words : Option (List ℕ) → List ℕ
name_words None = []
name_words (Some name) = name ++ codes " "

abbrev pub errno_words : Option ℕ → List ℕ
errno_words None = []
errno_words (Some errno) = name_words (error_name errno)

-- the error that an answer is, if it is one
abbrev pub failed_errno : {A : Type 0} → Answer A → Option ℕ
failed_errno (answers.Failed errno) = Some errno
failed_errno other = None

-- an answer as its line has it, with the name of an error
abbrev pub answer_said : {A : Type 0} → Answer A → List ℕ
answer_said answer = errno_words (failed_errno answer) ++ answer_words answer

-- a call by its number, its words and its line, with the answer to it and the one here
abbrev pub difference_text : (call : ℕ) → (words : List ℕ) → (line : ℕ) → (answer here : List ℕ) → List ℕ
difference_text call words line answer here =
    codes "differs: answer " ++ decimal call ++ codes " (" ++ words ++ codes ", line " ++ decimal line ++ codes "): "
    ++ answer ++ codes ", here " ++ here ++ codes "\n"

-- a note's line
abbrev pub note_text : {A : Type 0} → Note A → List ℕ
note_text (wrong f) = fault_words f ++ codes "\n"
note_text (notification code len) = codes "notification " ++ decimal code ++ codes " " ++ decimal len ++ codes "\n"
note_text (raised minor) = codes "7." ++ decimal minor
    ++ codes (if nat_lt minor 15 then " taken as 7.15\n" else " taken as 7.31\n")
note_text (differs call words line answer here) = difference_text call words line (answer_said answer) (answer_said here)
note_text (compared answers differences) = codes "answers " ++ decimal answers ++ codes " differ " ++ decimal differences
    ++ codes "\n"

-- the lines of notes
abbrev pub notes_text : {A : Type 0} → List (Note A) → List ℕ
notes_text notes = flat_map note_text notes
