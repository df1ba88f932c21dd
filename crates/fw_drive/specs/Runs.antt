-- What a driver's calls are.
use Rattle.std.specs.Prelude.{◌≡◌, ◌⊎◌, ◌++◌, ◌∷◌, ◌||◌, [], ℕ, Bool, false, List, All, IfErr, Option, Result, Ok, Err, OnOk, Some}
use Rattle.std.specs.Io.KnownBytes.{Appends}
use Rattle.fuse_spec.specs.declared.Refusal.TheVariants as refusals
use Rattle.fuse_device.specs.declared.device.DeviceEnd.TheVariants as device_ends
use Rattle.fuse_device.specs.Transfers.{Transfer}
use Rattle.fk_drive.specs.Driving.{Driven, Turn, first_driven, idle}
use Rattle.fk_drive.specs.declared.end.DriveEnd.{DriveEnd}
use Rattle.fk_drive.specs.declared.end.DriveEnd.TheVariants as drive_ends
use Rattle.fk_drive.specs.declared.writing.Written.{Written}
use Rattle.fuse_text.specs.Outputs.{AppendsSome}
use Rattle.fuse_text.specs.Lines.{lines_of}
use Rattle.fw_drive.specs.Findings.{Tells, Told, finding_status, is_any_move_wrong}
use Rattle.fw_drive.specs.Judging.{Say}
use Rattle.fw_drive.specs.LineMoves.{IsCollected, LinesMoveAs, all_lines}
use Rattle.fw_drive.specs.Moves.{GoOn, IsNote, IsSettled, Move, MovesOn, end_of}
use Rattle.fw_drive.specs.Notes.{Note, notes_text}
use Rattle.fw_drive.specs.Printed.{Gets, IsTextOf, IsWrittenLine, stop_line}
use Rattle.fw_drive.specs.declared.fault.Unanswered.{Unanswered}
use Rattle.fw_drive.specs.declared.form.Form.{Form}
use Rattle.fw_drive.specs.declared.line.DriveLine.{DriveLine}
use Rattle.fw_drive.specs.declared.stop.Stop.{Stop}
use Rattle.fw_drive.specs.declared.stop.Stop.TheVariants as stops

-- a driver at a turn
abbrev pub at : Driven → Turn → Driven
at driver turn = record driver { turn = turn }

-- What is driven stays the same.
abbrev pub Keeps : Driven → Driven → Type 0
Keeps old new = (turn : Turn) → at new turn ≡ at old turn

-- why nothing more is printed
abbrev pub IsUnprinted : Stop → Type 0
IsUnprinted stops.NoMemory = Unit {0}
IsUnprinted stops.OutputRefused = Unit {0}
IsUnprinted other = ⊥

-- why a run ends before its server does: nothing more is printed, or the kernel refuses what cannot be gone on without
abbrev pub IsOwnStop : Stop → Type 0
IsOwnStop (stops.Refused refusal) = Unit {0}
IsOwnStop other = IsUnprinted other

-- the stop of an end
abbrev pub stop_of : DriveEnd → Stop
stop_of (drive_ends.Device device_ends.Ended) = stops.ServerEnded
stop_of (drive_ends.Device device_ends.TimedOut) = stops.NoReply
stop_of (drive_ends.Device device_ends.Failed) = stops.DeviceFailed
stop_of drive_ends.Memory = stops.NoMemory
stop_of drive_ends.TooMany = stops.TooMany
stop_of (drive_ends.Refused refusal) = stops.Refused refusal

-- A call failed: the run came to its end at one of these moves, behind which nothing was but said, or at none.
pub data StopsAt {A : Type 0} (stop : Stop) (moves : List (Move A)) : Type 0 where
  by_itself : GoOn moves → IsOwnStop stop → StopsAt stop moves
  at_end : (before : List (Move A)) (last : Move A) (after : List (Move A)) → moves ≡ before ++ last ∷ after
      → GoOn before → All IsNote after → (e : DriveEnd) → end_of last ≡ Some e → (stop ≡ stop_of e) ⊎ IsUnprinted stop
      → StopsAt stop moves

-- Where a call did not fail, it came to its end at none.
abbrev pub EndsAs : {A T : Type 0} → Result T Stop → List (Move A) → Type 0
EndsAs (Ok _) moves = GoOn moves
EndsAs (Err stop) moves = StopsAt stop moves

-- A call makes these moves: what went over the device is theirs, and what the output got. It begins and ends between
-- requests, with no answer that waits, but where it fails. It is known whether a move says that the server was wrong.
pub record Goes (A : Type 0) {D T : Type 0} (logs : D → D → List Transfer → Type 0) (f : Form) (before after : D)
    (had has : Told) (old new : Driven) (result : Result T Stop) (Are : List (Move A) → Type 0) : Type 0 where
  pub moves : List (Move A)
  pub are : Are moves
  pub ends : EndsAs result moves
  pub turn : Turn
  pub between : OnOk result (turn ≡ idle)
  pub settled : IsSettled old → OnOk result (IsSettled new)
  pub log : List Transfer
  pub over : logs before after log
  pub on : IsSettled old → MovesOn (at old idle) moves log (at new turn)
  pub text : List ℕ
  pub lines : IsTextOf f moves text
  pub printed : Gets result had.0 has.0 text
  pub told : Tells result had.1 has.1 (is_any_move_wrong moves)

-- nothing goes over a device
abbrev pub NothingOver : Unit {0} → Unit {0} → List Transfer → Type 0
NothingOver before after log = log ≡ []

-- A call makes these moves with no device.
abbrev pub GoesAlone : (A : Type 0) {T : Type 0} → Form → (had has : Told) → Driven → Driven
    → Result T Stop → (List (Move A) → Type 0) → Type 0
GoesAlone A f had has old new result Are = Goes A NothingOver f tt tt had has old new result Are

-- Behind what was printed first the answers are collected that wait: all, or the first of them where that fails. What was
-- printed first may say that the server was wrong.
pub record Collects (A : Type 0) {T : Type 0} (f : Form) (first : List ℕ) (is_first_wrong : Bool) (had has : Told)
    (old new : Driven) (result : Result T Stop) : Type 0 where
  pub moves : List (Move A)
  pub are : All IsCollected moves
  pub own : IfErr result IsUnprinted
  pub settled : OnOk result (IsSettled new)
  pub on : MovesOn (at old idle) moves [] (at new idle)
  pub text : List ℕ
  pub lines : IsTextOf f moves text
  pub printed : Gets result had.0 has.0 (first ++ text)
  pub told : Tells result had.1 has.1 (is_first_wrong || is_any_move_wrong moves)

-- The run came to its end behind a frame that was written: it is printed, and what is said of it.
pub record EndsBehind {A T : Type 0} (f : Form) (written : Written A) (end : DriveEnd) (had has : Option (List ℕ))
    (result : Result T Stop) : Type 0 where
  pub failed : OnOk result ⊥
  pub stop : IfErr result (λ s. (s ≡ stop_of end) ⊎ IsUnprinted s)
  pub before : List (Note A)
  pub after : List (Note A)
  pub line : List ℕ
  pub is : IsWrittenLine f written line
  pub printed : Gets result had has (notes_text before ++ (line ++ notes_text after))

-- The exit status of a run that ended so: 3 where memory ran out, 5 where the output refused, also the last line.
abbrev pub stop_status : Stop → ℕ
stop_status stops.NoMemory = 3
stop_status (stops.Refused refusals.NoMemory) = 3
stop_status stops.OutputRefused = 5
stop_status other = 4

abbrev pub IsStopStatus : Stop → ℕ → Type 0
IsStopStatus stop status = (status ≡ stop_status stop) ⊎ ((status ≡ 5) × (stop_status stop ≡ 4))

-- The exit status of a run with these moves.
abbrev pub IsStatusOf : {A : Type 0} → (is_report_only : Bool) → List (Move A) → Result (Unit {0}) Stop → ℕ → Type 0
IsStatusOf is_report_only moves (Ok _) status = status ≡ finding_status is_report_only moves
IsStatusOf is_report_only moves (Err stop) status = IsStopStatus stop status

-- The line that says it is printed last: at status 4 all of it.
abbrev pub SaysStop : (A : Type 0) → Option Unanswered → Result (Unit {0}) Stop → ℕ → (had has : Option (List ℕ)) → Type 0
SaysStop A waits (Ok _) status had has = has ≡ had
SaysStop A waits (Err stop) status had has =
    (status ≡ 4 → Appends had has (stop_line A waits stop)) × AppendsSome had has (stop_line A waits stop)

-- A script is run on a first kernel: its lines make their moves in their order, all of them where the status is 0 or 6.
-- What goes over the device is theirs, and so is what the output gets, with a line behind it where the run ended before.
pub record RunsScript (A : Type 0) {D : Type 0} (logs : D → D → List Transfer → Type 0) (before after : D)
    (had has : Option (List ℕ)) (f : Form) (asks is_report_only : Bool) (status : ℕ) (script : List ℕ) : Type 0 where
  pub said : List DriveLine
  pub say : Say f (lines_of script) said
  pub ended : Result (Unit {0}) Stop
  pub last : Driven
  pub got : Told
  pub goes : Goes A logs f before after (had, false) got (first_driven asks) last ended (LinesMoveAs f ended (all_lines f said))
  pub is : IsStatusOf is_report_only goes.moves ended status
  -- the requests that wait for a reply at the end
  pub waits : Option Unanswered
  pub says : SaysStop A waits ended status got.0 has
