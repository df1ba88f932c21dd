-- A kernel that keeps the rules is never accused: of what `drive` sends the definitions of sessions have no fault.
use Rattle.std.specs.Prelude.{◌≡◌, ◌≤◌, ℕ, Bool, true, List, [], ◌∷◌, ◌++◌}
use Rattle.fuse_device.specs.Transfers.{Transfer}
use Rattle.fk_drive.specs.Driving.{Driven, Drives, first_driven}
use Rattle.fk_drive_theorem.specs.TakenOnce.{mounts_in}
use Rattle.fuse_protocol.specs.declared.agreed.Agreed.{Agreed}
use Rattle.protocol_law.specs.Law.{Carries}
use Rattle.fuse_sessions.specs.declared.fault.Fault.{Fault}
use Rattle.fuse_sessions.specs.declared.fault.Party.TheVariants.{Server}
use Rattle.fuse_sessions.specs.declared.known.Known.{Known}
use Rattle.fuse_sessions.specs.declared.transfer.Transfer.{Transfer as Said}
use Rattle.fuse_sessions.specs.declared.transfer.Transfer.TheVariants as said
use Rattle.fuse_sessions.specs.Faults.{HasFaultAt}
use Rattle.fuse_sessions.specs.Faultless.{HasNoFaultOf}
use Rattle.fuse_sessions.specs.Frames.{AreAccepted, IsSession, Lead, nothing_known}
use Rattle.fuse_sessions.specs.Sessions.{Session}
use Rattle.driven_sessions.specs.Transfers.{AreSaid}
use Rattle.driven_sessions.specs.Taken.{AreTaken, outcomes_of}

-- The kernel mounts once at most. A second mount over one connection begins again at the first number.
abbrev pub IsOneMount : {old : Driven} {log : List Transfer} {new : Driven} → Drives old log new → Type 0
IsOneMount run = mounts_in run ≤ 1

-- These are the transfers of a session of what went over a device. First it is said that requests may be out of order, as
-- where several threads read: OPENDIR has higher numbers than the kernel's next requests.
abbrev pub IsSessionOf : List Transfer → Session → Type 0
IsSessionOf log s = (ts : List Said) × AreSaid log ts × (k : Known) × IsSession (said.SeveralReaders ∷ ts) k s

-- No act of a session has, at its moment, a fault of this group.
abbrev pub ShowsNone : (Fault → Bool) → Session → Type 0
ShowsNone group s = (place : ℕ) (f : Fault) → HasFaultAt [] s place f → group f ≡ true → ⊥

-- What went over a device shows none of a group of faults: so does the session that it is.
abbrev pub IsFreeOf : (Fault → Bool) → List Transfer → Type 0
IsFreeOf group log = (s : Session) → IsSessionOf log s → ShowsNone group s

-- A kernel is never accused of a group of faults, whatever server it drives, over any device.
abbrev pub NeverAccused : (Fault → Bool) → Type 0
NeverAccused group = (asks : Bool) (log : List Transfer) (new : Driven) → Drives (first_driven asks) log new
    → IsFreeOf group log

-- The same of a kernel that mounts once.
abbrev pub NeverAccusedMountedOnce : (Fault → Bool) → Type 0
NeverAccusedMountedOnce group = (asks : Bool) (log : List Transfer) (new : Driven) (run : Drives (first_driven asks) log new)
    → IsOneMount run → IsFreeOf group log

-- What was agreed on before each of these transfers is such.
abbrev pub HaveAgreed : (Agreed → Type 0) → (k : Known) (s : Session) (ts : List Said) (later : Known) (all : Session)
    → Lead k s ts later all → Type 0
HaveAgreed IsSuch k s [] later all leads = Unit {0}
HaveAgreed IsSuch k s (t ∷ ts) later all (acts, known, are, leads) =
    IsSuch k.agreed × HaveAgreed IsSuch known (s ++ acts) ts later all leads

-- What went over a device shows none of a group of faults, where each agreement of the session carries the codec's frames.
abbrev pub IsFreeWhereCarried : (Fault → Bool) → List Transfer → Type 0
IsFreeWhereCarried group log = (ts : List Said) → AreSaid log ts → (k : Known) (s : Session)
    (is : IsSession (said.SeveralReaders ∷ ts) k s) → HaveAgreed Carries nothing_known [] (said.SeveralReaders ∷ ts) k s is
    → ShowsNone group s

abbrev pub NeverAccusedWhereCarried : (Fault → Bool) → Type 0
NeverAccusedWhereCarried group = (asks : Bool) (log : List Transfer) (new : Driven) → Drives (first_driven asks) log new
    → IsFreeWhereCarried group log

-- What went over a device shows none of a group of faults, where the session has of each frame what the kernel made of it.
abbrev pub IsFreeWhereTaken : (Fault → Bool) → {old : Driven} {log : List Transfer} {new : Driven} → Drives old log new
    → Type 0
IsFreeWhereTaken group {log = log} run = (ts : List Said) → AreSaid log ts → (k : Known) (s : Session)
    (is : IsSession (said.SeveralReaders ∷ ts) k s)
    → AreTaken nothing_known [] (said.SeveralReaders ∷ ts) k s is (outcomes_of run) → ShowsNone group s

abbrev pub NeverAccusedWhereTaken : (Fault → Bool) → Type 0
NeverAccusedWhereTaken group = (asks : Bool) (log : List Transfer) (new : Driven) (run : Drives (first_driven asks) log new)
    → IsFreeWhereTaken group run

-- The same where each agreement of the session carries the codec's frames too.
abbrev pub IsFreeWhereTakenAndCarried : (Fault → Bool) → {old : Driven} {log : List Transfer} {new : Driven}
    → Drives old log new → Type 0
IsFreeWhereTakenAndCarried group {log = log} run = (ts : List Said) → AreSaid log ts → (k : Known) (s : Session)
    (is : IsSession (said.SeveralReaders ∷ ts) k s)
    → AreTaken nothing_known [] (said.SeveralReaders ∷ ts) k s is (outcomes_of run)
    → HaveAgreed Carries nothing_known [] (said.SeveralReaders ∷ ts) k s is → ShowsNone group s

abbrev pub NeverAccusedMountedOnceWhereTaken : (Fault → Bool) → Type 0
NeverAccusedMountedOnceWhereTaken group = (asks : Bool) (log : List Transfer) (new : Driven)
    (run : Drives (first_driven asks) log new) → IsOneMount run → IsFreeWhereTakenAndCarried group run

-- A session in which each reply is accepted, and the server has no fault, has of each frame what the kernel made of it.
abbrev pub IsTakenWhereServed : {old : Driven} {log : List Transfer} {new : Driven} → Drives old log new → Type 0
IsTakenWhereServed {log = log} run = (ts : List Said) → AreSaid log ts → AreAccepted ts → (k : Known) (s : Session)
    (is : IsSession (said.SeveralReaders ∷ ts) k s) → HasNoFaultOf Server s
    → AreTaken nothing_known [] (said.SeveralReaders ∷ ts) k s is (outcomes_of run)
