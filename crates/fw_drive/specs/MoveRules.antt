-- The rules that a kernel keeps in the moves of a driven run.
use Rattle.std.specs.Prelude.{◌≡◌, ◌+◌, ◌∷◌, [], ℕ, Bool, List, Ok}
use Rattle.fuse_device.specs.Transfers.{Transfer}
use Rattle.fk_drive.specs.Driving.{Driven, Drives, first_driven}
use Rattle.fk_drive_theorem.specs.TakenOnce.{mounts_in}
use Rattle.driven_sessions.specs.Rules.{KeepsRulesIn}
use Rattle.fw_world.specs.declared.event.Event.TheVariants as event
use Rattle.fw_drive.specs.Moves.{Move, MovesOn, acts}

-- How many mounts there are in a move, and in moves.
abbrev pub mounts_of_move : {A : Type 0} → Move A → ℕ
mounts_of_move (acts (event.Mount found missing minor) (Ok outcome)) = 1
mounts_of_move move = 0

abbrev pub mounts_among : {A : Type 0} → List (Move A) → ℕ
mounts_among [] = 0
mounts_among (move ∷ moves) = mounts_of_move move + mounts_among moves

-- Whatever moves a first kernel makes, it is driven in a run that mounts as often as they do, and keeps the rules in it.
abbrev pub MovesKeepRules : (A : Type 0) → (asks : Bool) → Type 0
MovesKeepRules A asks = (moves : List (Move A)) (log : List Transfer) (new : Driven) → MovesOn (first_driven asks) moves log new
    → (run : Drives (first_driven asks) log new) × (mounts_in run ≡ mounts_among moves) × KeepsRulesIn run
