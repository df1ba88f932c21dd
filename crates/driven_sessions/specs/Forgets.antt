-- How a driven kernel forgets nodes, as the definitions of sessions judge it.
use Rattle.std.specs.Prelude.{◌≡◌, ◌<◌, ◌^◌, ℕ, Bool, false, List, [], ◌∷◌, Some, length, slice_get, take}
use Rattle.fuse_device.specs.Transfers.{Transfer, unsent}
use Rattle.fk_drive.specs.Driving.{Driven, Drives, first_driven}
use Rattle.protocol_law.specs.Law.{Carries}
use Rattle.fuse_sessions.specs.declared.act.Act.TheVariants as act
use Rattle.fuse_sessions.specs.declared.act.OpenKind.TheVariants as kind
use Rattle.fuse_sessions.specs.declared.fault.Party.TheVariants.{Server}
use Rattle.fuse_sessions.specs.declared.known.Known.{Known}
use Rattle.fuse_sessions.specs.declared.transfer.Transfer.{Transfer as Said}
use Rattle.fuse_sessions.specs.declared.transfer.Transfer.TheVariants as said
use Rattle.fuse_sessions.specs.Counts.{most_count}
use Rattle.fuse_sessions.specs.Faultless.{HasNoFaultOf}
use Rattle.fuse_sessions.specs.Frames.{AreAccepted, IsSession, nothing_known}
use Rattle.fuse_sessions.specs.OpenFiles.{opened}
use Rattle.fuse_sessions.specs.Sessions.{Session}
use Rattle.fuse_sessions.specs.Waiting.{is_named}
use Rattle.driven_sessions.specs.Driven.{HaveAgreed, IsOneMount}
use Rattle.driven_sessions.specs.Transfers.{AreSaid}

-- As the last lookups of a node are forgotten no request that waits names it.
abbrev pub ForgetsUnnamed : Session → Type 0
ForgetsUnnamed s = (place node lookups : ℕ) → slice_get s place ≡ Some (act.Forgets node lookups) → 0 < lookups
    → most_count (take place s) node ≡ lookups → is_named (take place s) node ≡ false

-- So a kernel forgets, where each reply is accepted, the server has no fault, and each agreement carries the codec's frames.
abbrev pub KeepsNamed : {old : Driven} {log : List Transfer} {new : Driven} → Drives old log new → Type 0
KeepsNamed {log = log} run = (ts : List Said) → AreSaid log ts → AreAccepted ts → (k : Known) (s : Session)
    (is : IsSession (said.SeveralReaders ∷ ts) k s) → HasNoFaultOf Server s
    → HaveAgreed Carries nothing_known [] (said.SeveralReaders ∷ ts) k s is → ForgetsUnnamed s

-- So does a kernel that mounts once, whatever server it drives.
abbrev pub NamedAreKept : Type 0
NamedAreKept = (asks : Bool) (log : List Transfer) (new : Driven) (run : Drives (first_driven asks) log new)
    → IsOneMount run → KeepsNamed run

-- Nor is a directory of it open.
abbrev pub ForgetsUnopened : Session → Type 0
ForgetsUnopened s = (place node lookups fh : ℕ) → slice_get s place ≡ Some (act.Forgets node lookups) → 0 < lookups
    → most_count (take place s) node ≡ lookups
    → opened (take place s) (record { kind = kind.Directory; nodeid = node; fh = fh }) ≡ 0

-- Each frame was sent: the device did not end before it.
abbrev pub AreAllSent : List Transfer → Type 0
AreAllSent [] = Unit {0}
AreAllSent (unsent frame end ∷ log) = ⊥
AreAllSent (t ∷ log) = AreAllSent log

-- So a kernel forgets under the same premises,
abbrev pub KeepsOpened : {old : Driven} {log : List Transfer} {new : Driven} → Drives old log new → Type 0
KeepsOpened {log = log} run = (ts : List Said) → AreSaid log ts → AreAccepted ts → (k : Known) (s : Session)
    (is : IsSession (said.SeveralReaders ∷ ts) k s) → HasNoFaultOf Server s
    → HaveAgreed Carries nothing_known [] (said.SeveralReaders ∷ ts) k s is → ForgetsUnopened s

-- where it mounts once, each frame was sent, and so much goes over the device that numbers are left for OPENDIR and RELEASEDIR.
abbrev pub OpenedAreKept : Type 0
OpenedAreKept = (asks : Bool) (log : List Transfer) (new : Driven) (run : Drives (first_driven asks) log new) → length log < 2 ^ 61
    → AreAllSent log → IsOneMount run → KeepsOpened run
