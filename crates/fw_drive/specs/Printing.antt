-- How what is noted of frames is printed as they come.
use Rattle.std.specs.Prelude.{◌≡◌, List, IfErr, Result, Ok, Err}
use Rattle.fw_drive.specs.Findings.{Tells, Told, is_any_wrong}
use Rattle.fw_drive.specs.Notes.{Note, notes_text}
use Rattle.fw_drive.specs.Printed.{Gets}
use Rattle.fw_drive.specs.Runs.{IsUnprinted}
use Rattle.fw_drive.specs.declared.stop.Stop.{Stop}

-- Notes were printed; where the output refused or memory ran out, a beginning of them.
abbrev pub Says : (A : Type 0) {T : Type 0} → Result T Stop → (had has : Told) → Type 0
Says A result had has = (said : List (Note A)) × Gets result had.0 has.0 (notes_text said)
    × Tells result had.1 has.1 (is_any_wrong said)

abbrev pub HasPrinted : (A : Type 0) {T : Type 0} → Result T Stop → (had has : Told) → Type 0
HasPrinted A result had has = IfErr result IsUnprinted × (said : List (Note A))
    × Gets result had.0 has.0 (notes_text said) × Tells result had.1 has.1 (is_any_wrong said)

-- They are printed as they come. Behind what could not be, nothing is.
abbrev pub PrintsOn : (A : Type 0) → (old new : Result (Unit {0}) Stop) → (had has : Told) → Type 0
PrintsOn A (Ok _) new had has = HasPrinted A new had has
PrintsOn A (Err stop) new had has = (new ≡ Err stop) × (has ≡ had)
