-- The lines of a script that drives a server, by their words.
use Rattle.std.specs.Prelude.{◌≡◌, ◌≢◌, ◌+◌, ◌<◌, ◌⊎◌, ◌++◌, ◌∷◌, [], ℕ, List, All, codes, decimal, length}
use Rattle.fk_syscalls.specs.declared.call.Call.TheVariants as call
use Rattle.fw_world.specs.declared.event.Event.{Event}
use Rattle.fw_world.specs.declared.event.Event.TheVariants as event
use Rattle.fw_script.specs.Arguments.{IsText}
use Rattle.fw_script.specs.Lines.{LineHasWords, WordsFaultIs}
use Rattle.fw_script.specs.Scripts.{IsPassedOver}
use Rattle.fuse_text.specs.Lines.{lines_of}
use Rattle.fuse_text.specs.Words.{words_of}
use Rattle.fw_script.specs.declared.line.Line.TheVariants as lines
use Rattle.fw_script.specs.declared.line.LineFault.{LineFault}
use Rattle.fw_script.specs.declared.line.LineFault.TheVariants.{UnknownEvent, WrongWords}
use Rattle.fw_drive.specs.declared.form.Form.{Form}
use Rattle.fw_drive.specs.declared.form.Form.TheVariants as form
use Rattle.fw_drive.specs.declared.line.DriveLine.{DriveLine}
use Rattle.fw_drive.specs.declared.line.DriveLine.TheVariants as line

-- a script of calls alone
abbrev pub IsOfCalls : Form → Type 0
IsOfCalls form.Events = ⊥
IsOfCalls other = Unit {0}

-- the first words of a server's events
abbrev pub IsOfServer : List ℕ → Type 0
IsOfServer word = (word ≡ codes "take") ⊎ (word ≡ codes "do") ⊎ (word ≡ codes "again") ⊎ (word ≡ codes "settle")

-- the first words of events that a script of calls leaves to this command
abbrev pub IsOfFrames : List ℕ → Type 0
IsOfFrames word = (word ≡ codes "mount") ⊎ (word ≡ codes "read") ⊎ (word ≡ codes "write") ⊎ (word ≡ codes "intr")

-- They begin as no line of such a script does.
abbrev pub IsForeign : Form → List (List ℕ) → Type 0
IsForeign form [] = ⊥
IsForeign form (word ∷ rest) = IsOfServer word ⊎ (IsOfCalls form × IsOfFrames word)

-- the words that may follow `call open PATH`, for O_RDONLY, O_WRONLY and O_RDWR with O_LARGEFILE
abbrev pub IsFlagsWord : ℕ → List ℕ → Type 0
IsFlagsWord flags word =
    ((flags ≡ 32768) × (word ≡ codes "r")) ⊎ ((flags ≡ 32769) × (word ≡ codes "w"))
    ⊎ ((flags ≡ 32770) × (word ≡ codes "rw"))

-- a file is opened with these flags
abbrev pub OpensWith : List ℕ → ℕ → List (List ℕ) → Type 0
OpensWith path flags words =
    (word : List ℕ) × (words ≡ codes "call" ∷ codes "open" ∷ path ∷ word ∷ []) × IsText path × (0 < length path)
    × IsFlagsWord flags word

-- The event of a line that is an event: `call open`, `read` and `write` are lines of their own.
abbrev pub IsPlain : Event → Type 0
IsPlain (event.Call (call.Open path)) = ⊥
IsPlain (event.Read pick) = ⊥
IsPlain (event.Write place) = ⊥
IsPlain other = Unit {0}

-- these are the words of the line
abbrev pub DriveLineHasWords : Form → DriveLine → List (List ℕ) → Type 0
DriveLineHasWords form (line.Event e) words = ¬ (IsForeign form words) × IsPlain e × LineHasWords (lines.Event e) words
DriveLineHasWords form (line.Read pick) words =
    ¬ (IsForeign form words) × LineHasWords (lines.Event (event.Read pick)) words
DriveLineHasWords form (line.Open path flags) words =
    OpensWith path.now flags words
    ⊎ ((flags ≡ 32770) × LineHasWords (lines.Event (event.Call (call.Open path))) words)
DriveLineHasWords form (line.CallWrite open_call offset hex) words =
    LineHasWords (lines.CallWrite open_call offset hex) words
DriveLineHasWords form line.Write words = ¬ (IsForeign form words) × (words ≡ codes "write" ∷ [])
DriveLineHasWords form line.Show words = words ≡ codes "show" ∷ []

-- What is wrong with the words of a line, the first fault in order.
pub data DriveFaultIs (form : Form) (words : List (List ℕ)) : LineFault → Type 0 where
  foreign : IsForeign form words → DriveFaultIs form words UnknownEvent
  -- `write` has no place
  placed : ¬ (IsForeign form words) → (place : ℕ) → words ≡ codes "write" ∷ decimal place ∷ []
      → DriveFaultIs form words WrongWords
  -- It is none as a line of any script, and none of those that this command has alone.
  faulty : (fault : LineFault) → ¬ (IsForeign form words) → words ≢ codes "write" ∷ []
      → ((path : List ℕ) (flags : ℕ) → ¬ (OpensWith path flags words)) → WordsFaultIs words fault
      → DriveFaultIs form words fault

-- a line of a good script
abbrev pub IsGoodDriveLine : Form → List ℕ → Type 0
IsGoodDriveLine form line = IsPassedOver line ⊎ ((l : DriveLine) × DriveLineHasWords form l (words_of line))

-- a script that is run
abbrev pub IsGoodDriveScript : Form → List ℕ → Type 0
IsGoodDriveScript form script = All (IsGoodDriveLine form) (lines_of script)

-- what is wrong with a line
abbrev pub DriveLineFaultIs : Form → List ℕ → LineFault → Type 0
DriveLineFaultIs form line fault = ¬ (IsPassedOver line) × DriveFaultIs form (words_of line) fault

-- the first line with a fault, by its number from 1 on
abbrev pub FirstDriveFaultIs : Form → List ℕ → ℕ → LineFault → Type 0
FirstDriveFaultIs form script number fault =
    (before : List (List ℕ)) × (line : List ℕ) × (after : List (List ℕ)) × (lines_of script ≡ before ++ line ∷ after)
    × All (IsGoodDriveLine form) before × (number ≡ length before + 1) × DriveLineFaultIs form line fault
