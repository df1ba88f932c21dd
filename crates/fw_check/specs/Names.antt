-- What is said of a transfer that takes a name away: its fault, behind those of its acts.
use Rattle.std.specs.Prelude.{Bool, if◌then◌else◌, List, [], ◌∷◌, ◌++◌, Option, Some}
use Rattle.fuse_sessions.specs.declared.act.Act.{Act}
use Rattle.fuse_sessions.specs.declared.act.Act.TheVariants.{Arrives, Read}
use Rattle.fuse_sessions.specs.declared.fault.Fault.{Fault}
use Rattle.fuse_sessions.specs.declared.fault.Fault.TheVariants.{NameThatIsMissing}

-- Behind the verdicts stands that of the names: what takes away a name that is missing has that fault.
abbrev pub with_names : (is_missing : Bool) → List (Option Fault) → List (Option Fault)
with_names is_missing verdicts = if is_missing then verdicts ++ Some NameThatIsMissing ∷ [] else verdicts

-- the act of a request by which it has its opcode and its number
abbrev pub removal_in : List Act → Act
removal_in [] = Arrives
removal_in (Read opcode unique ∷ acts) = Read opcode unique
removal_in (a ∷ acts) = removal_in acts

-- And behind the acts stands the one that it is about: the request's own.
abbrev pub with_removal : (is_missing : Bool) → List Act → List Act
with_removal is_missing acts = if is_missing then acts ++ removal_in acts ∷ [] else acts
