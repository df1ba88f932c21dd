-- What a judge says of the next transfer of a session that it sees from its beginning, or that it joined.
use Rattle.std.specs.Prelude.{◌≡◌, ◌↔◌, ℕ, Bool, true, false, if◌then◌else◌, List, [], ◌∷◌, ◌++◌, Option, Some, None, length, map, slice_get}
use Rattle.fuse_sessions.specs.declared.act.Act.{Act}
use Rattle.fuse_sessions.specs.declared.fault.Fault.{Fault}
use Rattle.fuse_sessions.specs.declared.known.Known.{Known}
use Rattle.fuse_sessions.specs.declared.transfer.Transfer.{Transfer}
use Rattle.fuse_sessions.specs.Sessions.{Session}
use Rattle.fuse_sessions.specs.Frames.{AreActs, nothing_known}
use Rattle.fuse_judge.specs.Transfers.{AreFaults, HasSeenFrom, SessionState}
use Rattle.joined_sessions.specs.Joined.{HasJoinedFaultAt, is_certain, joined_known}

-- what is known at the start
abbrev pub start_known : (is_joined : Bool) → Known
start_known true = joined_known
start_known false = nothing_known

-- a verdict without a fault that is not certain
abbrev pub certain_verdict : Option Fault → Option Fault
certain_verdict None = None
certain_verdict (Some f) = if is_certain f then Some f else None

abbrev pub certain_verdicts : List (Option Fault) → List (Option Fault)
certain_verdicts verdicts = map certain_verdict verdicts

-- The verdicts are the faults of the next transfer's acts, each at its act, and no other: all, or of a session that was
-- joined the certain ones.
abbrev pub AreFaultsAs : (is_joined : Bool) → Session → List Act → List (Option Fault) → Type 0
AreFaultsAs true s acts verdicts =
    (place : ℕ) (f : Fault) → slice_get verdicts place ≡ Some (Some f) ↔ HasJoinedFaultAt s acts place f
AreFaultsAs false s acts verdicts = AreFaults s acts verdicts

-- The next transfer has these acts and no others, and they are judged and seen.
pub record IsJudgedAs (is_joined : Bool) (start : Known) (transfers : List Transfer) (s : Session) (t : Transfer)
    (old new : SessionState) (acts : List Act) (verdicts : List (Option Fault)) : Type 0 where
  pub are : AreActs old.known s t acts new.known
  pub once : (others : List Act) (later : Known) → AreActs old.known s t others later → others ≡ acts
  pub faults : AreFaultsAs is_joined s acts verdicts
  pub each : length verdicts ≡ length acts
  pub seen : HasSeenFrom start (transfers ++ t ∷ []) (s ++ acts) new
