-- What a session says of a name, in the words of the acts that stand in it.
use Rattle.std.specs.Prelude.{◌≡◌, Bool, true, false, List, ◌∷◌, ◌++◌, None, nat_eq}
use Rattle.std.specs.List.{list_any}
use Rattle.fuse_sessions.specs.declared.act.Act.{Act}
use Rattle.fuse_sessions.specs.declared.known.Known.{Known}
use Rattle.fuse_sessions.specs.declared.transfer.Transfer.{Transfer}
use Rattle.fuse_sessions.specs.declared.transfer.Transfer.TheVariants as transfer
use Rattle.fuse_sessions.specs.Sessions.{Session}
use Rattle.name_sessions.specs.NameFrames.{AreNamesAfter}
use Rattle.name_sessions.specs.Names.{Name, same_name}
use Rattle.name_sessions.specs.NameActs.{NameAct, Gives, Loses, Leaves}
use Rattle.name_sessions.specs.NameSessions.{NameSession, is_unsure}

-- the act takes a name away, or leaves its directory
abbrev pub takes : Name → NameAct → Bool
takes name (Loses other) = same_name other name
takes name (Leaves node) = nat_eq node name.0
takes name act = false

-- the act gives a name a file
abbrev pub gives : Name → NameAct → Bool
gives name (Gives other) = same_name other name
gives name act = false

-- Some act gives the name a file, and no later one takes it away.
pub record IsGiven (s : NameSession) (name : Name) : Type 0 where
  pub before : List NameAct
  pub act : NameAct
  pub later : List NameAct
  pub is : s ≡ before ++ act ∷ later
  pub there : gives name act ≡ true
  pub kept : list_any (takes name) later ≡ false

-- One transfer more has no fault, and nothing is certain of any name behind it.
abbrev pub IsUnsureAfter : (is_missing : Bool) → (after : NameSession) → Type 0
IsUnsureAfter is_missing after = (is_missing ≡ false) × (is_unsure after ≡ true)

-- So it is once nothing is certain of any name,
abbrev pub StaysUnsure : Type 0
StaysUnsure = (k : Known) (names : NameSession) (s : Session) (t : Transfer) (acts : List Act) (after : NameSession) (is_missing : Bool)
    → is_unsure names ≡ true → AreNamesAfter k names s t acts after is_missing → IsUnsureAfter is_missing after

-- and where a session that is judged says that several threads read the device.
abbrev pub SeveralAreUnsure : Type 0
SeveralAreUnsure = (k : Known) (names : NameSession) (s : Session) (acts : List Act) (after : NameSession) (is_missing : Bool)
    → k.unjudged ≡ None → AreNamesAfter k names s transfer.SeveralReaders acts after is_missing → IsUnsureAfter is_missing after
