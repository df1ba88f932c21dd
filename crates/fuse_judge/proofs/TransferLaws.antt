-- The acts of the next transfer are settled by those before it.
use Rattle.std.proofs.Common.{◌≡◌, ℕ, List, [], ◌++◌, length, Option, sym}
use Rattle.fuse_sessions.specs.declared.act.Act.{Act}
use Rattle.fuse_sessions.specs.declared.act.Asked.{Asked}
use Rattle.fuse_sessions.specs.declared.fault.Fault.{Fault}
use Rattle.fuse_sessions.specs.declared.known.Known.{Known}
use Rattle.fuse_sessions.specs.declared.transfer.Transfer.{Transfer}
use Rattle.fuse_sessions.specs.declared.transfer.Transfer.TheVariants as transfer
use Rattle.fuse_sessions.specs.Sessions.{Session}
use Rattle.fuse_sessions.specs.Frames.{AreActs}
use Rattle.fuse_sessions.specs.Waiting.{waits}
use Rattle.fuse_sessions.proofs.FrameLaws.{acts_once, lead-more}
use Rattle.fuse_judge.specs.Seen.{HasSeen}
use Rattle.fuse_judge.specs.Transfers.{SessionState, HasSeenFrom, AreFaults, IsJudged, IsAskedFor}
use Rattle.session_frames.specs.Numbers.{IsReplyNumber}

pub judged_once : (s : Session) (j : SessionState) (t : Transfer) (acts others : List Act) (next later : Known) → AreActs j.known s t acts next → AreActs j.known s t others later
    → others ≡ acts
judged_once s j t acts others next later are them = acts_once j.known s t others acts later next them are

-- What has the acts of the next transfer, their verdicts and what is known behind it has judged it.
pub is_judged : (start : Known) (before : List Transfer) (s : Session) (old new : SessionState) (t : Transfer)
    (acts : List Act) (verdicts : List (Option Fault)) → HasSeenFrom start before s old → AreActs old.known s t acts new.known
    → AreFaults s acts verdicts → length verdicts ≡ length acts → HasSeen (s ++ acts) new.judge
    → IsJudged start before s t old new acts verdicts
is_judged start before s old new t acts verdicts right are faults each seen = record {
  are = are;
  once = λ others later them. judged_once s old t acts others new.known later are them;
  faults = faults;
  each = each;
  seen = record { are = lead-more _ _ before _ s _ _ _ right.are are; seen = seen };
}

-- What is read are the same acts in any session.
pub acts_for : (k : Known) (s : Session) (t : Transfer) (asked : Option Asked) (acts : List Act) (later : Known)
    → IsAskedFor s t asked
    → ((before : Session) (n : ℕ) → IsReplyNumber t n → waits before n ≡ asked → AreActs k before t acts later)
    → AreActs k s t acts later
acts_for k s (transfer.Written bytes taken) asked acts later is are = are s is.0 is.1 is.2
acts_for k s (transfer.Request bytes) asked acts later is are = are [] 0 tt (sym is)
acts_for k s transfer.SeveralReaders asked acts later is are = are [] 0 tt (sym is)
acts_for k s transfer.SeveralWriters asked acts later is are = are [] 0 tt (sym is)
acts_for k s transfer.Ended asked acts later is are = are [] 0 tt (sym is)
