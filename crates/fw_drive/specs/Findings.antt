-- What a server did wrong, by what is said of it, and the exit status of a run that says it.
use Rattle.std.specs.Prelude.{◌≡◌, ◌&&◌, ◌||◌, ◌∷◌, [], ℕ, Bool, true, false, cond, not, List, Option, Result, OnOk}
use Rattle.fw_drive.specs.Moves.{Move, notes}
use Rattle.fw_drive.specs.Notes.{Note, wrong, differs}
use Rattle.fw_drive.specs.declared.stop.Stop.{Stop}

-- this says that the server was wrong
abbrev pub is_wrong : {A : Type 0} → Note A → Bool
is_wrong (wrong f) = true
is_wrong (differs call words line answer here) = true
is_wrong note = false

abbrev pub is_wrong_move : {A : Type 0} → Move A → Bool
is_wrong_move (notes note) = is_wrong note
is_wrong_move move = false

-- one of these says it
abbrev pub is_any_wrong : {A : Type 0} → List (Note A) → Bool
is_any_wrong [] = false
is_any_wrong (note ∷ said) = is_wrong note || is_any_wrong said

abbrev pub is_any_move_wrong : {A : Type 0} → List (Move A) → Bool
is_any_move_wrong [] = false
is_any_move_wrong (move ∷ moves) = is_wrong_move move || is_any_move_wrong moves

-- the exit status of a run that came to its end: 6 where the server was wrong, unless that is only reported
abbrev pub end_status : (is_report_only is_found : Bool) → ℕ
end_status is_report_only is_found = cond (is_found && not is_report_only) 6 0

abbrev pub finding_status : {A : Type 0} → (is_report_only : Bool) → List (Move A) → ℕ
finding_status is_report_only moves = end_status is_report_only (is_any_move_wrong moves)

-- What an output got, and whether that says that the server was wrong.
abbrev pub Told : Type 0
Told = Option (List ℕ) × Bool

-- That was said before, or is now; where a call failed, it is not known.
abbrev pub Tells : {T : Type 0} → Result T Stop → (old new is_said : Bool) → Type 0
Tells result old new is_said = OnOk result (new ≡ (old || is_said))
