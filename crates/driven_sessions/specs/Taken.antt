-- What became of each frame that a run received, and the sessions that have of it at least what the kernel made of it.
use Rattle.std.specs.Prelude.{◌≡◌, ◌≢◌, ◌%◌, ℕ, List, [], ◌∷◌, ◌++◌, None}
use Rattle.fuse_device.specs.Transfers.{Transfer, received}
use Rattle.fuse_spec.specs.declared.WriteResult.{WriteResult}
use Rattle.fuse_spec.specs.declared.WriteResult.TheVariants.{Accepted}
use Rattle.fk_kernel.specs.AwaitedReplies.{head_unique}
use Rattle.fk_drive.specs.Driving.{Driven, DriveStep, Drives, waits, writes, next, nothing}
use Rattle.fuse_replies.specs.Replies.{IsErrorWord, IsFrame}
use Rattle.fuse_sessions.specs.declared.known.Known.{Known}
use Rattle.fuse_sessions.specs.declared.act.Taken.{Taken}
use Rattle.fuse_sessions.specs.declared.act.Taken.TheVariants as taken
use Rattle.fuse_sessions.specs.declared.transfer.Transfer.{Transfer as Said}
use Rattle.fuse_sessions.specs.declared.transfer.Transfer.TheVariants as said
use Rattle.fuse_sessions.specs.Frames.{Lead, error_in}
use Rattle.fuse_sessions.specs.Sessions.{Session}
use Rattle.fuse_sessions.specs.Waiting.{waits as waits_in}

-- What became of a frame that was received.
pub data Outcome : Type 0 where
  -- It is not for the kernel.
  aside : Outcome
  -- It is for the kernel, and waits.
  waiting : Outcome
  -- It was written to the kernel, with this result.
  written : (result : WriteResult) → Outcome

-- nothing that was received is for the kernel
abbrev pub all_aside : List Transfer → List Outcome
all_aside [] = []
all_aside (received frame ∷ log) = aside ∷ all_aside log
all_aside (t ∷ log) = all_aside log

-- the first frame that waits is written, with this result
abbrev pub first_written : WriteResult → List Outcome → List Outcome
first_written result [] = []
first_written result (waiting ∷ outcomes) = written result ∷ outcomes
first_written result (outcome ∷ outcomes) = outcome ∷ first_written result outcomes

-- The next two are what became of each frame that was received, in order, after a step and after a run.
abbrev pub outcomes_after : {old : Driven} {log : List Transfer} {new : Driven} → DriveStep old log new → List Outcome
    → List Outcome
outcomes_after (waits frame is) outcomes = outcomes ++ waiting ∷ []
outcomes_after (writes idles frame rest there handed on result new taken log next_own left turn behind) outcomes =
    first_written result outcomes
outcomes_after {log = log} step outcomes = outcomes ++ all_aside log

abbrev pub outcomes_of : {old : Driven} {log : List Transfer} {new : Driven} → Drives old log new → List Outcome
outcomes_of nothing = []
outcomes_of (next before mid run log new step) = outcomes_after step (outcomes_of run)

-- The header of a reply is whole, with an error or none.
abbrev pub HasHeader : List ℕ → Type 0
HasHeader frame = IsFrame frame × IsErrorWord (error_in frame)

-- A reply that the kernel accepted was taken as accepted, while the request under its number waited, as long as frames are
-- judged. So it came after its request. Of a reply to an INTERRUPT, and of any other frame, nothing is said.
abbrev pub IsTaken : Known → Session → (frame : List ℕ) → Taken → Outcome → Type 0
IsTaken k s frame t (written Accepted) = k.unjudged ≡ None → HasHeader frame → head_unique frame % 2 ≡ 0
    → (t ≡ taken.Accepted) × (waits_in s (head_unique frame) ≢ None)
IsTaken k s frame t outcome = Unit {0}

-- Of each frame that is written in a session this became, in order, and it was taken so.
abbrev pub AreTaken : (k : Known) (s : Session) (ts : List Said) (later : Known) (all : Session) → Lead k s ts later all
    → List Outcome → Type 0
AreTaken k s (said.Written bytes t ∷ ts) later all (acts, known, are, leads) (outcome ∷ outcomes) =
    IsTaken k s bytes.now t outcome × AreTaken known (s ++ acts) ts later all leads outcomes
AreTaken k s (said.Written bytes t ∷ ts) later all leads [] = Unit {0}
AreTaken k s [] later all leads outcomes = Unit {0}
AreTaken k s (t ∷ ts) later all (acts, known, are, leads) outcomes = AreTaken known (s ++ acts) ts later all leads outcomes

-- What the kernel did not accept a session has as refused.
abbrev pub IsRefusedToo : Taken → Outcome → Type 0
IsRefusedToo t (written Accepted) = Unit {0}
IsRefusedToo t outcome = t ≡ taken.Accepted → ⊥

-- Of each frame that is written in a session this became, in order, and it was refused where the kernel refused it.
abbrev pub AreRefusedToo : List Said → List Outcome → Type 0
AreRefusedToo (said.Written bytes t ∷ ts) (outcome ∷ outcomes) = IsRefusedToo t outcome × AreRefusedToo ts outcomes
AreRefusedToo (said.Written bytes t ∷ ts) [] = Unit {0}
AreRefusedToo [] outcomes = Unit {0}
AreRefusedToo (t ∷ ts) outcomes = AreRefusedToo ts outcomes
