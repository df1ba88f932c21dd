-- What is printed of the moves of a driven run.
use Rattle.std.specs.Prelude.{◌≡◌, ◌++◌, ◌∷◌, [], ℕ, List, Option, Result, Ok, Err, codes, length}
use Rattle.std.specs.Io.KnownBytes.{Appends}
use Rattle.fuse_spec.specs.declared.Refusal.{Refusal}
use Rattle.fuse_frames.specs.DecodedReplies.{HasReplyHead, head_unique}
use Rattle.fuse_frames.specs.RequestTies.{IsRequestFrame, asked_opcode}
use Rattle.fuse_spec.specs.Kernel.Messages.{Request}
use Rattle.fk_drive.specs.declared.end.NotSent.TheVariants.{Refused, Ended}
use Rattle.fk_drive.specs.declared.writing.Written.{Written}
use Rattle.fuse_text.specs.Outputs.{AppendsSome}
use Rattle.fuse_text.specs.Nodes.{nodes_text}
use Rattle.fw_script.specs.Records.{answer_text, record_text}
use Rattle.fw_world.specs.declared.event.Outcome.{Outcome}
use Rattle.fw_world.specs.declared.event.Outcome.TheVariants as outcome
use Rattle.fw_world.specs.declared.record.Record.TheVariants as records
use Rattle.fw_drive.specs.Faults.{unanswered_words}
use Rattle.fw_drive.specs.Moves.{Move, acts, sends, writes, collects, shows, notes}
use Rattle.fw_drive.specs.Notes.{note_text}
use Rattle.fw_drive.specs.declared.fault.Unanswered.{Unanswered}
use Rattle.fw_drive.specs.declared.form.Form.{Form}
use Rattle.fw_drive.specs.declared.form.Form.TheVariants as form
use Rattle.fw_drive.specs.declared.stop.Stop.{Stop}
use Rattle.fw_drive.specs.declared.stop.Stop.TheVariants as stops

-- ---- lines

-- what an event came to
abbrev pub outcome_text : (A : Type 0) → Outcome → List ℕ
outcome_text A o = record_text {A = A} (records.Outcome o)

-- why the kernel refuses
abbrev pub refusal_text : (A : Type 0) → Refusal → List ℕ
refusal_text A r = record_text {A = A} (records.Refused r)

-- a line that a script of events alone prints: one of calls has a line a call
abbrev pub of_frame : Form → List ℕ → List ℕ
of_frame form.Events line = line
of_frame other line = []

-- the number that is printed of a frame of the server: that in its head, or 0 where it has none
abbrev pub IsShownUnique : List ℕ → ℕ → Type 0
IsShownUnique frame unique =
    (HasReplyHead frame → unique ≡ head_unique frame) × ((HasReplyHead frame → ⊥) → unique ≡ 0)

-- the line of a request that was sent
abbrev pub IsRequestLine : (A : Type 0) → Form → Request → List ℕ → Type 0
IsRequestLine A f request line = (frame : List ℕ) × IsRequestFrame frame request
    × (line ≡ of_frame f (outcome_text A (outcome.Read request.unique (asked_opcode request.body) (length frame))))

-- the line of a frame that was written to the kernel
abbrev pub IsWrittenLine : {A : Type 0} → Form → Written A → List ℕ → Type 0
IsWrittenLine {A} f written line = (unique : ℕ) × IsShownUnique written.frame.items unique
    × (line ≡ of_frame f (outcome_text A (outcome.Written unique written.result)))

-- This is a move's line.
abbrev pub IsLineOf : {A : Type 0} → Form → Move A → List ℕ → Type 0
IsLineOf {A} f (acts event (Ok o)) line = line ≡ outcome_text A o
IsLineOf {A} f (acts event (Err refusal)) line = line ≡ refusal_text A refusal
IsLineOf {A} f (sends pick free_fields (Ok request)) line = IsRequestLine A f request line
IsLineOf {A} f (sends pick free_fields (Err (Refused refusal))) line = line ≡ of_frame f (refusal_text A refusal)
IsLineOf f (sends pick free_fields (Err (Ended end))) line = line ≡ []
IsLineOf f (writes (Ok (Ok written))) line = IsWrittenLine f written line
IsLineOf {A} f (writes (Ok (Err refusal))) line = line ≡ of_frame f (refusal_text A refusal)
IsLineOf f (writes (Err end)) line = line ≡ []
IsLineOf f (collects call answer) line = line ≡ answer_text call answer
IsLineOf f (shows nodes) line = line ≡ nodes_text (codes "kernel") nodes
IsLineOf f (notes note) line = line ≡ note_text note

-- This is the text of moves, line by line.
pub data IsTextOf {A : Type 0} (f : Form) : List (Move A) → List ℕ → Type 0 where
  no_text : IsTextOf f [] []
  next_text : (move : Move A) (line : List ℕ) → IsLineOf f move line → (moves : List (Move A)) (text : List ℕ)
      → IsTextOf f moves text → IsTextOf f (move ∷ moves) (line ++ text)

-- ---- outputs

-- An output got a text; where it refused or memory ran out, a beginning of it.
abbrev pub GetsAt : Stop → (old new : Option (List ℕ)) → List ℕ → Type 0
GetsAt stops.NoMemory old new text = AppendsSome old new text
GetsAt stops.OutputRefused old new text = AppendsSome old new text
GetsAt other old new text = Appends old new text

abbrev pub Gets : {T : Type 0} → Result T Stop → (old new : Option (List ℕ)) → List ℕ → Type 0
Gets (Ok _) old new text = Appends old new text
Gets (Err stop) old new text = GetsAt stop old new text

-- the line that says why a run ended before its script, and which requests then waited for a reply
abbrev pub stop_line : (A : Type 0) → Option Unanswered → Stop → List ℕ
stop_line A waits stops.ServerEnded = codes "server ended\n"
stop_line A waits stops.NoReply = codes "no reply" ++ unanswered_words waits ++ codes "\n"
stop_line A waits stops.DeviceFailed = codes "device failed\n"
stop_line A waits stops.TooMany = codes "device failed: 10000 frames wait\n"
stop_line A waits (stops.Refused refusal) = refusal_text A refusal
stop_line A waits other = []
