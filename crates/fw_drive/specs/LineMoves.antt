-- Which moves the lines of a script make.
use Rattle.std.specs.Prelude.{◌≡◌, ◌⊎◌, ◌++◌, ◌∷◌, [], List, All, Result, Ok, Err}
use Rattle.fuse_spec.specs.declared.Minor.TheVariants.{M31}
use Rattle.fk_syscalls.specs.declared.call.Call.TheVariants as call
use Rattle.fk_kernel.specs.declared.read.Pick.{Pick}
use Rattle.fk_kernel.specs.declared.read.Pick.TheVariants as pick
use Rattle.fw_world.specs.declared.event.Event.{Event}
use Rattle.fw_world.specs.declared.event.Event.TheVariants as event
use Rattle.fw_script.specs.Lines.{spelled}
use Rattle.fw_script.specs.declared.line.Line.TheVariants as lines
use Rattle.fw_drive.specs.Moves.{Move, acts, sends, writes, collects, shows, notes}
use Rattle.fw_drive.specs.Notes.{Note}
use Rattle.fw_drive.specs.declared.form.Form.{Form}
use Rattle.fw_drive.specs.declared.form.Form.TheVariants as form
use Rattle.fw_drive.specs.declared.line.DriveLine.{DriveLine}
use Rattle.fw_drive.specs.declared.line.DriveLine.TheVariants as line

-- this event happens
abbrev pub IsEvent : {A : Type 0} → Event → Move A → Type 0
IsEvent e (acts happened result) = happened ≡ e
IsEvent e move = ⊥

-- a request is sent by this pick
abbrev pub IsSentBy : {A : Type 0} → Pick → Move A → Type 0
IsSentBy picked (sends by free_fields result) = by ≡ picked
IsSentBy picked move = ⊥

-- a frame is written
abbrev pub IsWritten : {A : Type 0} → Move A → Type 0
IsWritten (writes result) = Unit {0}
IsWritten move = ⊥

-- This is the move that a line says.
abbrev pub IsMoveOf : {A : Type 0} → DriveLine → Move A → Type 0
IsMoveOf (line.Event e) move = IsEvent e move
IsMoveOf (line.Read picked) move = IsSentBy picked move
IsMoveOf (line.Open path flags) move = IsEvent (event.Call (call.Open path)) move
IsMoveOf (line.CallWrite open_call offset hex) move =
    (e : Event) × IsEvent e move × (spelled (lines.Event e) ≡ spelled (lines.CallWrite open_call offset hex))
IsMoveOf line.Write move = IsWritten move
IsMoveOf line.Show (shows nodes) = Unit {0}
IsMoveOf line.Show move = ⊥

-- an answer is collected, or something is said
abbrev pub IsCollected : {A : Type 0} → Move A → Type 0
IsCollected (collects call answer) = Unit {0}
IsCollected (notes note) = Unit {0}
IsCollected move = ⊥

-- the request that has waited longest, or one forget
abbrev pub IsCarriedBy : Pick → Type 0
IsCarriedBy picked = (picked ≡ pick.Pending 0) ⊎ (picked ≡ pick.Forgets 1)

-- A call is carried to its answer: such requests are sent, frames of the server are written, and answers are collected.
abbrev pub Carries : {A : Type 0} → Move A → Type 0
Carries (sends picked free_fields result) = IsCarriedBy picked
Carries (writes result) = Unit {0}
Carries (collects call answer) = Unit {0}
Carries (notes note) = Unit {0}
Carries move = ⊥

-- What may follow the move of a line, before the next line.
abbrev pub MayFollow : {A : Type 0} → Form → Move A → Type 0
MayFollow form.Events move = IsCollected move
MayFollow other move = Carries move

-- one such move, and then none but such; before it something may be said
pub data FirstThen {A : Type 0} (First Rest : Move A → Type 0) : List (Move A) → Type 0 where
  first_move : (move : Move A) → First move → (rest : List (Move A)) → All Rest rest
      → FirstThen First Rest (move ∷ rest)
  after_note : (note : Note A) (moves : List (Move A)) → FirstThen First Rest moves
      → FirstThen First Rest (notes note ∷ moves)

-- Lines make these moves, one line after another.
pub data LinesMove {A : Type 0} (form : Form) : List DriveLine → List (Move A) → Type 0 where
  no_line : LinesMove form [] []
  next_line : (lines : List DriveLine) (moves : List (Move A)) → LinesMove form lines moves → (line : DriveLine)
      (more : List (Move A)) → FirstThen (IsMoveOf line) (MayFollow form) more
      → LinesMove form (lines ++ line ∷ []) (moves ++ more)

-- A script of calls begins with a mount.
abbrev pub mount_line : DriveLine
mount_line = line.Event (event.Mount 0 0 M31)

abbrev pub mount_lines : Form → List DriveLine
mount_lines form.Events = []
mount_lines other = mount_line ∷ []

-- All that is done for a script: at its end the nodes are shown.
abbrev pub all_lines : Form → List DriveLine → List DriveLine
all_lines form said = mount_lines form ++ said ++ line.Show ∷ []

-- The first of these lines made these moves: the last of those may have made the first of its moves alone.
abbrev pub FirstLinesMove : {A : Type 0} → Form → List DriveLine → List (Move A) → Type 0
FirstLinesMove form said moves =
    (done : List DriveLine) × (rest : List DriveLine) × (said ≡ done ++ rest) × LinesMove form done moves

-- By the result of a call, all of these lines did, or the first of them.
abbrev pub LinesMoveAs : {A T E : Type 0} → Form → Result T E → List DriveLine → List (Move A) → Type 0
LinesMoveAs form (Ok _) said moves = LinesMove form said moves
LinesMoveAs form (Err _) said moves = FirstLinesMove form said moves

-- such moves, or none where the call failed
abbrev pub Perhaps : {A T E : Type 0} → Result T E → (List (Move A) → Type 0) → List (Move A) → Type 0
Perhaps (Ok _) Are moves = Are moves
Perhaps (Err _) Are moves = (moves ≡ []) ⊎ Are moves
