-- What a judge of transfers has seen, and what it says of the next.
use Rattle.std.specs.Prelude.{◌≡◌, ◌↔◌, ℕ, List, [], ◌∷◌, ◌++◌, Option, Some, None, length, slice_get}
use Rattle.fuse_sessions.specs.declared.act.Act.{Act}
use Rattle.fuse_sessions.specs.declared.act.Asked.{Asked}
use Rattle.fuse_sessions.specs.declared.fault.Fault.{Fault}
use Rattle.fuse_sessions.specs.declared.known.Known.{Known}
use Rattle.fuse_sessions.specs.declared.transfer.Transfer.{Transfer}
use Rattle.fuse_sessions.specs.declared.transfer.Transfer.TheVariants as transfer
use Rattle.fuse_sessions.specs.Sessions.{Session}
use Rattle.fuse_sessions.specs.Faults.{HasFaultAt}
use Rattle.fuse_sessions.specs.Frames.{AreActs, Lead, nothing_known}
use Rattle.fuse_sessions.specs.Waiting.{waits}
use Rattle.session_frames.specs.Numbers.{IsReplyNumber}
use Rattle.fuse_judge.specs.Seen.{JudgeState, HasSeen}

-- What contracts see of a judge of transfers.
pub record SessionState : Type 0 where
  pub judge : JudgeState
  pub known : Known

-- It has seen these transfers of a session of which this was known at the start, and they have these acts.
pub record HasSeenFrom (start : Known) (transfers : List Transfer) (s : Session) (j : SessionState) : Type 0 where
  pub are : Lead start [] transfers j.known s
  pub seen : HasSeen s j.judge

-- The same from the session's beginning.
abbrev pub HasSeenTransfers : List Transfer → Session → SessionState → Type 0
HasSeenTransfers transfers s j = HasSeenFrom nothing_known transfers s j

-- The verdicts are the faults of the next transfer's acts, each at its act, and no other.
abbrev pub AreFaults : Session → List Act → List (Option Fault) → Type 0
AreFaults s acts verdicts =
    (place : ℕ) (f : Fault) → slice_get verdicts place ≡ Some (Some f) ↔ HasFaultAt s acts place f

-- The next transfer has these acts and no others, and they are judged and seen.
pub record IsJudged (start : Known) (transfers : List Transfer) (s : Session) (t : Transfer) (old new : SessionState)
    (acts : List Act) (verdicts : List (Option Fault)) : Type 0 where
  pub are : AreActs old.known s t acts new.known
  pub once : (others : List Act) (later : Known) → AreActs old.known s t others later → others ≡ acts
  pub faults : AreFaults s acts verdicts
  pub each : length verdicts ≡ length acts
  pub seen : HasSeenFrom start (transfers ++ t ∷ []) (s ++ acts) new

-- This waits for what a transfer writes: nothing, where it writes no frame.
abbrev pub IsAskedFor : Session → Transfer → Option Asked → Type 0
IsAskedFor s (transfer.Written bytes taken) asked =
    (n : ℕ) × IsReplyNumber (transfer.Written bytes taken) n × (waits s n ≡ asked)
IsAskedFor s t asked = asked ≡ None
