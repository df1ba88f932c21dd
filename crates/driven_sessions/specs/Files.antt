-- What a driven kernel does with its open files, as the definitions of sessions judge it.
use Rattle.std.specs.Prelude.{◌≡◌, ◌<◌, ◌^◌, ℕ, Bool, true, false, List, [], ◌∷◌, length}
use Rattle.std.specs.List.{list_all}
use Rattle.fuse_device.specs.Transfers.{Transfer}
use Rattle.fk_drive.specs.Driving.{Driven, Drives, first_driven}
use Rattle.protocol_law.specs.Law.{Carries}
use Rattle.fuse_sessions.specs.declared.act.Act.{Act}
use Rattle.fuse_sessions.specs.declared.act.Act.TheVariants as act
use Rattle.fuse_sessions.specs.declared.act.OpenKind.{OpenKind}
use Rattle.fuse_sessions.specs.declared.act.OpenKind.TheVariants as kind
use Rattle.fuse_sessions.specs.declared.fault.Fault.{Fault}
use Rattle.fuse_sessions.specs.declared.fault.Party.TheVariants.{Server}
use Rattle.fuse_sessions.specs.declared.known.Known.{Known}
use Rattle.fuse_sessions.specs.declared.transfer.Transfer.{Transfer as Said}
use Rattle.fuse_sessions.specs.declared.transfer.Transfer.TheVariants as said
use Rattle.fuse_sessions.specs.Faults.{HasFaultAt}
use Rattle.fuse_sessions.specs.Faultless.{HasNoFaultOf}
use Rattle.fuse_sessions.specs.Frames.{AreAccepted, IsSession, nothing_known}
use Rattle.fuse_sessions.specs.OpenFiles.{has_none}
use Rattle.fuse_sessions.specs.Sessions.{Session}
use Rattle.fuse_sessions.specs.Waiting.{same_kind}
use Rattle.driven_sessions.specs.Driven.{HaveAgreed, IsOneMount}
use Rattle.driven_sessions.specs.Transfers.{AreSaid}

-- The act uses or releases an open file of this kind.
abbrev pub is_of : OpenKind → Act → Bool
is_of which (act.Uses file) = same_kind file.kind which
is_of which (act.Releases file) = same_kind file.kind which
is_of which a = false

-- No such act of a session has a fault.
abbrev pub UsesRightly : OpenKind → Session → Type 0
UsesRightly which s = (place : ℕ) (f : Fault) (has : HasFaultAt [] s place f) → is_of which has.act ≡ true → ⊥

-- It is certain that each entry of the session counts: its file has a kind, the one that was asked for, and fewer than 2^63
-- bytes.
abbrev pub is_certain : Act → Bool
is_certain (act.Gives node file certain) = certain
is_certain a = true

abbrev pub AreCertain : Session → Type 0
AreCertain s = list_all is_certain s ≡ true

-- So a kernel uses its files, where each reply is accepted, the server has no fault, each agreement carries the codec's frames,
-- and each entry counts for certain.
abbrev pub KeepsFilesOpen : {old : Driven} {log : List Transfer} {new : Driven} → Drives old log new → Type 0
KeepsFilesOpen {log = log} run = (ts : List Said) → AreSaid log ts → AreAccepted ts → (k : Known) (s : Session)
    (is : IsSession (said.SeveralReaders ∷ ts) k s) → HasNoFaultOf Server s → AreCertain s
    → HaveAgreed Carries nothing_known [] (said.SeveralReaders ∷ ts) k s is → UsesRightly kind.File s

-- So does a kernel that mounts once, whatever server it drives.
abbrev pub FilesAreUsedRightly : Type 0
FilesAreUsedRightly = (asks : Bool) (log : List Transfer) (new : Driven) (run : Drives (first_driven asks) log new)
    → IsOneMount run → KeepsFilesOpen run

-- So it uses the directories that it opens, where each reply is accepted, the server has no fault and opens directories, and each
-- agreement carries the codec's frames.
abbrev pub KeepsDirectoriesOpen : {old : Driven} {log : List Transfer} {new : Driven} → Drives old log new → Type 0
KeepsDirectoriesOpen {log = log} run = (ts : List Said) → AreSaid log ts → AreAccepted ts → (k : Known) (s : Session)
    (is : IsSession (said.SeveralReaders ∷ ts) k s) → HasNoFaultOf Server s → has_none s kind.Directory ≡ false
    → HaveAgreed Carries nothing_known [] (said.SeveralReaders ∷ ts) k s is → UsesRightly kind.Directory s

-- So does a kernel that mounts once and asks OPENDIR, whatever server it drives, where so much goes over the device that numbers
-- are left for OPENDIR.
abbrev pub DirectoriesAreUsedRightly : Type 0
DirectoriesAreUsedRightly = (log : List Transfer) (new : Driven) (run : Drives (first_driven true) log new) → length log < 2 ^ 61
    → IsOneMount run → KeepsDirectoriesOpen run
