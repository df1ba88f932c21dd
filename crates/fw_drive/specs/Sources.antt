-- The run of lines that a source gives one at a time.
use Rattle.std.specs.Prelude.{◌≡◌, ◌≤◌, ◌+◌, ◌⊎◌, ◌++◌, ◌∷◌, [], ℕ, Bool, false, List, Option, Result, Ok, Err, OnOk, codes, length}
use Rattle.fuse_device.specs.Transfers.{Transfer}
use Rattle.fk_drive.specs.Driving.{Driven, first_driven}
use Rattle.fuse_text.specs.Outputs.{AppendsSome}
use Rattle.fuse_text.specs.Stops.{bad_line, unreadable}
use Rattle.fw_script.specs.Stops.{line_fault_words}
use Rattle.fw_drive.specs.DriveLines.{DriveLineFaultIs}
use Rattle.fw_drive.specs.Findings.{Told, finding_status}
use Rattle.fw_drive.specs.Judging.{Say}
use Rattle.fw_drive.specs.LineMoves.{LinesMove, all_lines, mount_lines}
use Rattle.fw_drive.specs.Moves.{Move}
use Rattle.fw_drive.specs.Runs.{Goes, IsStopStatus, SaysStop}
use Rattle.fw_drive.specs.declared.fault.Unanswered.{Unanswered}
use Rattle.fw_drive.specs.declared.form.Form.{Form}
use Rattle.fw_drive.specs.declared.halt.Halt.{Halt}
use Rattle.fw_drive.specs.declared.halt.Halt.TheVariants as halts
use Rattle.fw_drive.specs.declared.line.DriveLine.{DriveLine}
use Rattle.fw_drive.specs.declared.source.NoLine.TheVariants as no_line
use Rattle.fw_drive.specs.declared.stop.Stop.{Stop}
use Rattle.fw_drive.specs.declared.stop.Stop.TheVariants as stops

-- A source gave these lines. Where it failed, what it is then is not known.
abbrev pub Gave : {S T : Type 0} → (S → S → List (List ℕ) → Type 0) → Result T Halt → (old new : S) → List (List ℕ) → Type 0
Gave {S} gives (Err (halts.NoLine why)) old new lines = (mid : S) × gives old mid lines
Gave gives other old new lines = gives old new lines

-- All of these lines made their moves, but perhaps the last: of it the first move at most.
abbrev pub AllButLastMove : {A : Type 0} → Form → List DriveLine → List (Move A) → Type 0
AllButLastMove form said moves = (done : List DriveLine) × (rest : List DriveLine) × (said ≡ done ++ rest)
    × (length rest ≤ 1) × LinesMove form done moves

-- Lines were run, and the run goes on.
abbrev pub Ran : (A : Type 0) {D : Type 0} → (D → D → List Transfer → Type 0) → Form → (before after : D)
    → (had has : Told) → (old new : Driven) → List DriveLine → Type 0
Ran A logs f before after had has old new said =
    let r : Result (Unit {0}) Stop = Ok tt in Goes A logs f before after had has old new r (LinesMove f said)

-- It came to its end at the last of them.
abbrev pub RanUpTo : (A : Type 0) {D : Type 0} → (D → D → List Transfer → Type 0) → Form → (before after : D)
    → (had has : Told) → (old new : Driven) → Stop → List DriveLine → Type 0
RanUpTo A logs f before after had has old new stop said =
    let r : Result (Unit {0}) Stop = Err stop in Goes A logs f before after had has old new r (AllButLastMove f said)

-- These lines were run, one after another, behind others; the first of them has this number. A bad line is the last, and
-- does nothing.
abbrev pub RunsGiven : (A : Type 0) {D T : Type 0} → (D → D → List Transfer → Type 0) → Form → (before after : D)
    → (had has : Told) → (old new : Driven) → (first : List DriveLine) → (next : ℕ) → Result T Halt
    → List (List ℕ) → Type 0
RunsGiven A logs f before after had has old new first next (Ok _) lines =
    (said : List DriveLine) × Say f lines said × Ran A logs f before after had has old new (first ++ said)
RunsGiven A logs f before after had has old new first next (Err (halts.BadLine number fault)) lines =
    (good : List (List ℕ)) × (bad : List ℕ) × (lines ≡ good ++ bad ∷ []) × (number ≡ next + length good)
    × DriveLineFaultIs f bad fault
    × ((said : List DriveLine) × Say f good said × Ran A logs f before after had has old new (first ++ said))
RunsGiven A logs f before after had has old new first next (Err (halts.NoLine why)) lines =
    (said : List DriveLine) × Say f lines said × Ran A logs f before after had has old new (first ++ said)
RunsGiven A logs f before after had has old new first next (Err (halts.Stopped stop)) lines =
    (said : List DriveLine) × Say f lines said × RanUpTo A logs f before after had has old new stop (first ++ said)

-- A source gave lines, which were run, up to its end or to where that ended.
pub record RunsFrom (A : Type 0) {D S T : Type 0} (logs : D → D → List Transfer → Type 0)
    (gives : S → S → List (List ℕ) → Type 0) (is_over : S → Type 0) (f : Form) (before after : D) (old_source new_source : S)
    (had has : Told) (old new : Driven) (first : List DriveLine) (next : ℕ) (result : Result T Halt) : Type 0 where
  pub lines : List (List ℕ)
  pub gave : Gave gives result old_source new_source lines
  pub over : OnOk result (is_over new_source)
  pub runs : RunsGiven A logs f before after had has old new first next result lines

-- All that is done for a source: behind its lines the nodes are shown.
abbrev pub RunsToEnd : (A : Type 0) {D : Type 0} → (D → D → List Transfer → Type 0) → Form → (before after : D)
    → (had has : Told) → (old new : Driven) → Result (Unit {0}) Halt → List (List ℕ) → Type 0
RunsToEnd A logs f before after had has old new (Ok _) lines =
    (said : List DriveLine) × Say f lines said × Ran A logs f before after had has old new (all_lines f said)
RunsToEnd A logs f before after had has old new (Err (halts.Stopped stop)) lines =
    (said upto : List DriveLine) × Say f lines said × ((upto ≡ mount_lines f ++ said) ⊎ (upto ≡ all_lines f said))
    × RanUpTo A logs f before after had has old new stop upto
RunsToEnd A logs f before after had has old new result lines =
    RunsGiven A logs f before after had has old new (mount_lines f) 1 result lines

pub record RunsAll (A : Type 0) {D S : Type 0} (logs : D → D → List Transfer → Type 0)
    (gives : S → S → List (List ℕ) → Type 0) (is_over : S → Type 0) (f : Form) (before after : D) (old_source new_source : S)
    (had has : Told) (old new : Driven) (result : Result (Unit {0}) Halt) : Type 0 where
  pub lines : List (List ℕ)
  pub gave : Gave gives result old_source new_source lines
  pub over : OnOk result (is_over new_source)
  pub runs : RunsToEnd A logs f before after had has old new result lines

-- the moves of all lines, where the source came to its end
abbrev pub moves_to_end : (A : Type 0) {D : Type 0} (logs : D → D → List Transfer → Type 0) (f : Form) (before after : D)
    (had has : Told) (old new : Driven) (result : Result (Unit {0}) Halt) (lines : List (List ℕ))
    → RunsToEnd A logs f before after had has old new result lines → List (Move A)
moves_to_end A logs f before after had has old new (Ok _) lines (said, say, ran) = ran.moves
moves_to_end A logs f before after had has old new (Err halt) lines runs = []

-- What is said of a run that came to its end before its source, and its exit status.
abbrev pub EndsStopped : (A : Type 0) → Option Unanswered → Stop → (status : ℕ)
    → (had has fault_had fault_has : Option (List ℕ)) → Type 0
EndsStopped A waits stop status had has fault_had fault_has =
    let r : Result (Unit {0}) Stop = Err stop in
    IsStopStatus stop status × SaysStop A waits r status had has
    × (status ≡ 3 → AppendsSome fault_had fault_has (codes "no memory\n"))
    × ((status ≡ 4) ⊎ (status ≡ 5) → fault_has ≡ fault_had)

-- What is said of the end of a run, and its exit status.
abbrev pub EndsRun : (A : Type 0) → Option Unanswered → (name : List ℕ) → (is_report_only : Bool) → List (Move A)
    → Result (Unit {0}) Halt → (status : ℕ) → (had has fault_had fault_has : Option (List ℕ)) → Type 0
EndsRun A waits name is_report_only moves (Ok _) status had has fault_had fault_has =
    (status ≡ finding_status is_report_only moves) × (has ≡ had) × (fault_has ≡ fault_had)
EndsRun A waits name is_report_only moves (Err (halts.BadLine number fault)) status had has fault_had fault_has =
    (status ≡ 1) × (has ≡ had) × AppendsSome fault_had fault_has (bad_line number (line_fault_words fault) ++ codes "\n")
EndsRun A waits name is_report_only moves (Err (halts.NoLine no_line.CannotRead)) status had has fault_had fault_has =
    (status ≡ 1) × (has ≡ had) × AppendsSome fault_had fault_has (unreadable name ++ codes "\n")
EndsRun A waits name is_report_only moves (Err (halts.NoLine no_line.NoMemory)) status had has fault_had fault_has =
    (status ≡ 3) × (has ≡ had) × AppendsSome fault_had fault_has (codes "no memory\n")
EndsRun A waits name is_report_only moves (Err (halts.NoLine no_line.OutputRefused)) status had has fault_had fault_has =
    (status ≡ 5) × (has ≡ had) × (fault_has ≡ fault_had)
EndsRun A waits name is_report_only moves (Err (halts.NoLine (no_line.Refused refusal))) status had has fault_had fault_has =
    EndsStopped A waits (stops.Refused refusal) status had has fault_had fault_has
EndsRun A waits name is_report_only moves (Err (halts.Stopped stop)) status had has fault_had fault_has =
    EndsStopped A waits stop status had has fault_had fault_has

-- Lines are run on a first kernel as their source gives them, in their order: all of them where the status is 0 or 6.
pub record RunsSource (A : Type 0) {D S : Type 0} (logs : D → D → List Transfer → Type 0)
    (gives : S → S → List (List ℕ) → Type 0) (is_over : S → Type 0) (f : Form) (name : List ℕ) (asks is_report_only : Bool)
    (before after : D) (old_source new_source : S) (had has fault_had fault_has : Option (List ℕ)) (status : ℕ) : Type 0 where
  pub ended : Result (Unit {0}) Halt
  pub last : Driven
  pub got : Told
  pub all : RunsAll A logs gives is_over f before after old_source new_source (had, false) got (first_driven asks) last ended
  -- the requests that wait for a reply at the end
  pub waits : Option Unanswered
  pub ends : EndsRun A waits name is_report_only
      (moves_to_end A logs f before after (had, false) got (first_driven asks) last ended all.lines all.runs) ended status
      got.0 has fault_had fault_has
