-- Verdicts: what a judge says of acts.
use Rattle.std.specs.Prelude.{◌≡◌, ◌↔◌, List, [], ◌∷◌, ◌++◌, Option, Some}
use Rattle.fuse_sessions.specs.declared.act.Act.{Act}
use Rattle.fuse_sessions.specs.declared.fault.Fault.{Fault}
use Rattle.fuse_sessions.specs.Sessions.{Session}
use Rattle.fuse_sessions.specs.Faults.{Breaks}

-- The verdict is the fault of which this is true, or there is none.
abbrev pub IsFault : (Fault → Type 0) → Option Fault → Type 0
IsFault breaks verdict = (fault : Fault) → verdict ≡ Some fault ↔ breaks fault

-- This is the fault of the next act, or it has none.
abbrev pub IsVerdict : Session → Act → Option Fault → Type 0
IsVerdict s act verdict = IsFault (Breaks s act) verdict

-- These are the verdicts on the next acts, one for each.
abbrev pub AreVerdicts : Session → List Act → List (Option Fault) → Type 0
AreVerdicts s [] [] = Unit {0}
AreVerdicts s (act ∷ later) (verdict ∷ verdicts) = IsVerdict s act verdict × AreVerdicts (s ++ act ∷ []) later verdicts
AreVerdicts s acts verdicts = ⊥
