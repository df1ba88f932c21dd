-- How a request is sent.
use Rattle.std.specs.Prelude.{◌≡◌, ◌≤◌, ℕ, ℤ, List, [], Some, None, Result, Ok, Err, length}
use Rattle.fuse_spec.specs.Kernel.Messages.{Request}
use Rattle.fuse_spec.specs.Kernel.Kernel.{Kernel}
use Rattle.fuse_spec.specs.Kernel.Refusals.{or_no_memory}
use Rattle.fk_wire.specs.Fields.{number_at}
use Rattle.fk_wire.specs.Requests.{RequestMessage, Spells}
use Rattle.fuse_frames.specs.RequestTies.{SaysRequest}
use Rattle.fk_wire.specs.Replies.{WrittenReply, empty_reply}
use Rattle.fk_drive_frames.specs.Filling.{ChangesOnly, FillsFor}
use Rattle.fk_drive_frames.specs.declared.filling.FreeFields.{FreeFields}
use Rattle.fuse_device.specs.Transfers.{Transfer}
use Rattle.fk_kernel.specs.AwaitedReplies.{HasReplyHead}
use Rattle.fk_kernel.specs.Picks.{IsPicked, after_pick, pick_refusal}
use Rattle.fk_kernel.specs.Refused.{WriteRefused}
use Rattle.fk_kernel.specs.declared.read.Pick.{Pick}
use Rattle.fk_drive.specs.Driving.{Driven, Runs, SendsFrame, Turn, idle, picked, unopened}
use Rattle.fk_drive.specs.Exchanges.{Ends}
use Rattle.fk_drive.specs.Rooms.{most_waiting}
use Rattle.fk_drive.specs.Steps.{IsAwaiting, SendStep}
use Rattle.fk_drive.specs.declared.end.DriveEnd.{DriveEnd}
use Rattle.fk_drive.specs.declared.end.DriveEnd.TheVariants as at
use Rattle.fk_drive.specs.declared.end.NotSent.{NotSent}
use Rattle.fk_drive.specs.declared.end.NotSent.TheVariants.{Refused, Ended}

-- A frame is sent that says what these bytes say, filled as is chosen.
pub record SendsSame (bytes : List ℕ) (free_fields : FreeFields) (log : List Transfer) : Type 0 where
  pub frame : List ℕ
  pub same : (request : Request) → SaysRequest bytes request → SaysRequest frame request
  pub filled : (m : RequestMessage) → Spells bytes m → FillsFor m.content free_fields bytes frame
  pub sends : SendsFrame frame log

-- One is sent that says it with this fh.
pub record SendsListing (bytes : List ℕ) (fh : ℕ) (log : List Transfer) : Type 0 where
  pub frame : List ℕ
  pub same : (request : Request) → SaysRequest bytes request → SaysRequest frame request
  pub only : ChangesOnly 40 8 bytes frame
  pub handle : number_at 40 8 frame ≡ fh
  pub sends : SendsFrame frame log

-- The kernel refuses this error as the reply to the request under this number.
abbrev pub IsAnswerRefusedAs : Kernel → ℕ → ℤ → DriveEnd → Type 0
IsAnswerRefusedAs kernel unique error (at.Refused refusal) = (bytes : List ℕ)
    × WrittenReply (record { unique = unique; error = error; content = empty_reply }) bytes
    × (HasReplyHead bytes → WriteRefused kernel bytes refusal)
IsAnswerRefusedAs kernel unique error end = ⊥

-- It refuses the error for a directory that could not be opened.
abbrev pub IsAnswerRefused : Kernel → Turn → DriveEnd → Type 0
IsAnswerRefused kernel (unopened request error) end = IsAnswerRefusedAs kernel request.unique error end
IsAnswerRefused kernel turn end = ⊥

-- The request is sent, or the device came to its end; memory ran out, or as many frames wait as are kept, while the reply
-- to OPENDIR is awaited; or the kernel refused the error.
abbrev pub SendsUntil : {T : Type 0} → Result T DriveEnd → Driven → List Transfer → Type 0
SendsUntil (Ok _) new log = Ends None log × (new.turn ≡ idle)
SendsUntil (Err (at.Device end)) new log = Ends (Some end) log
SendsUntil (Err at.Memory) new log = Ends None log × IsAwaiting new.turn
SendsUntil (Err at.TooMany) new log = Ends None log × IsAwaiting new.turn × (most_waiting ≤ length new.waiting)
SendsUntil (Err (at.Refused refusal)) new log = Ends None log × IsAnswerRefused new.kernel new.turn (at.Refused refusal)

-- Where the kernel refused to be read there is none either.
abbrev pub IsRequestSent : {T : Type 0} → Result T NotSent → Turn → Type 0
IsRequestSent (Ok _) turn = turn ≡ idle
IsRequestSent (Err (Refused refusal)) turn = turn ≡ idle
IsRequestSent (Err (Ended end)) turn = Unit {0}

-- The kernel refused to be read as the definitions refuse it, or as out of memory.
abbrev pub IsReadRefused : Kernel → Pick → NotSent → Type 0
IsReadRefused k pick (Refused refusal) = refusal ≡ or_no_memory (pick_refusal k pick)
IsReadRefused k pick (Ended end) = Unit {0}

-- A request is read from the kernel and sent, each in its own steps.
pub record SendsPicked (pick : Pick) (free_fields : FreeFields) (request : Request) (old : Driven) (log : List Transfer)
    (new : Driven) : Type 0 where
  pub may : pick_refusal old.kernel pick ≡ None
  pub is : IsPicked old.kernel pick request
  pub sends : Runs (SendStep free_fields) (record old {
    kernel = record old.kernel { queues = after_pick old.kernel.queues pick };
    turn = picked request;
  }) log new

-- By the result: the request is sent; nothing is read, and nothing changes; or the run came to its end.
abbrev pub SendsNext : Result Request NotSent → Pick → FreeFields → Driven → List Transfer → Driven → Type 0
SendsNext (Ok request) pick free_fields old log new = SendsPicked pick free_fields request old log new
    × SendsUntil (Ok request) new log
SendsNext (Err (Refused refusal)) pick free_fields old log new = (log ≡ []) × (new ≡ old)
SendsNext (Err (Ended end)) pick free_fields old log new = (request : Request)
    × SendsPicked pick free_fields request old log new × SendsUntil {T = Request} (Err end) new log
