-- What the judge's tables say of the session that it has seen.
use Rattle.std.specs.Prelude.{◌≡◌, Bool, false, List, [], ◌∷◌, ◌++◌, Option, Some, None}
use Rattle.std.specs.List.{list_any}
use Rattle.name_sessions.specs.NameActs.{NameAct, Unsure}
use Rattle.name_sessions.specs.NameFrames.{has_fault}
use Rattle.name_sessions.specs.NameSessions.{NameSession, is_doubt}
use Rattle.name_judge.specs.declared.tables.Tables.{Tables}
use Rattle.name_judge.specs.Given.{AreGiven}
use Rattle.name_judge.specs.Waits.{AreWaiting}

-- The tables are right of a session.
pub record AreRight {A : Type 0} (s : NameSession) (t : Tables A) : Type 0 where
  pub waiting : AreWaiting s t.rows.entries
  pub given : AreGiven s t.given.entries

-- The next acts are of this kind, the tables are right after them, and it is said whether one is a fault.
pub record IsSeen {A : Type 0} (Are : List NameAct → Type 0) (s : NameSession) (t : Tables A) (fault : Bool) : Type 0 where
  pub acts : List NameAct
  pub are : Are acts
  pub said : fault ≡ has_fault s acts
  pub certain : list_any is_doubt acts ≡ false
  pub right : AreRight (s ++ acts) t

-- So it is; or nothing is certain from here on.
abbrev pub IsVerdict : {A : Type 0} → (Are : List NameAct → Type 0) → NameSession → Tables A → Option Bool → Type 0
IsVerdict Are s t None = Are (Unsure ∷ [])
IsVerdict Are s t (Some fault) = IsSeen Are s t fault
