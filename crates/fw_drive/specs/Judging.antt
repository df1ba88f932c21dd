-- What the lines of a script say, and why a script is not run.
use Rattle.std.specs.Prelude.{◌⊎◌, ◌++◌, ◌∷◌, [], ℕ, List, Option, IfSome, codes}
use Rattle.fuse_text.specs.Outputs.{AppendsSome}
use Rattle.fw_script.specs.Scripts.{IsPassedOver}
use Rattle.fuse_text.specs.Stops.{bad_line, unreadable}
use Rattle.fw_script.specs.Stops.{line_fault_words}
use Rattle.fuse_text.specs.Words.{words_of}
use Rattle.fw_script.specs.declared.line.LineFault.{LineFault}
use Rattle.fw_drive.specs.DriveLines.{DriveLineHasWords, FirstDriveFaultIs, IsGoodDriveScript}
use Rattle.fw_drive.specs.declared.form.Form.{Form}
use Rattle.fw_drive.specs.declared.line.DriveLine.{DriveLine}
use Rattle.fw_drive.specs.declared.lines.BadScript.{BadScript}
use Rattle.fw_drive.specs.declared.lines.BadScript.TheVariants as bad

-- The lines say this, in their order; a line that is passed over says nothing.
pub data Say (form : Form) : List (List ℕ) → List DriveLine → Type 0 where
  no_more : Say form [] []
  passed_over : (lines : List (List ℕ)) (said : List DriveLine) → Say form lines said → (line : List ℕ)
      → IsPassedOver line → Say form (lines ++ line ∷ []) said
  says : (lines : List (List ℕ)) (said : List DriveLine) → Say form lines said → (line : List ℕ) (l : DriveLine)
      → DriveLineHasWords form l (words_of line) → Say form (lines ++ line ∷ []) (said ++ l ∷ [])

-- why the lines of a script are not kept: its first bad line, or out of memory for good ones
abbrev pub JudgingEnds : Form → List ℕ → BadScript → Type 0
JudgingEnds form script (bad.BadLine number fault) = FirstDriveFaultIs form script number fault
JudgingEnds form script bad.NoMemory = IsGoodDriveScript form script

-- the exit status of that
abbrev pub bad_status : BadScript → ℕ
bad_status (bad.BadLine number fault) = 1
bad_status bad.NoMemory = 3

-- what is said of it on standard error
abbrev pub bad_text : BadScript → List ℕ
bad_text (bad.BadLine number fault) = bad_line number (line_fault_words fault) ++ codes "\n"
bad_text bad.NoMemory = codes "no memory\n"

-- The first line with a fault is said, or a beginning of that.
abbrev pub SaysFirstFault : Form → (script : List ℕ) → (old new : Option (List ℕ)) → Type 0
SaysFirstFault form script old new = (number : ℕ) × (fault : LineFault) × FirstDriveFaultIs form script number fault
    × AppendsSome old new (bad_line number (line_fault_words fault) ++ codes "\n")

-- Why a script is not run: it cannot be read, or a line has a fault; either is said, or a beginning of it.
abbrev pub IsUnrun : Form → (name : List ℕ) → (script : Option (List ℕ)) → (old new : Option (List ℕ)) → Type 0
IsUnrun form name script old new =
    AppendsSome old new (unreadable name ++ codes "\n")
    ⊎ IfSome script (λ s. SaysFirstFault form s old new)
