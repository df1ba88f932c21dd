-- What sending a request results in.
use Rattle.std.proofs.Common.{◌≡◌, ◌∙◌, ℕ, List, [], ◌++◌, None, refl, sym, ap, subst, false}
use Rattle.std.specs.Prelude.{ℤ, Result, Ok, Err, IfErr, OnErr, OnOk}
use Rattle.fuse_spec.specs.declared.Refusal.{Refusal}
use Rattle.fuse_spec.specs.declared.WriteResult.{WriteResult}
use Rattle.fuse_spec.specs.declared.WriteResult.TheVariants.{Invalid, NoEntry}
use Rattle.fuse_spec.specs.Kernel.Refusals.{is_kernel_past_end}
use Rattle.fuse_spec.specs.Kernel.Kernel.{Kernel}
use Rattle.fuse_spec.specs.Kernel.Messages.{Request}
use Rattle.fk_wire.specs.Replies.{WrittenReply, empty_reply}
use Rattle.fuse_device.specs.Transfers.{Transfer}
use Rattle.fk_kernel.specs.AwaitedReplies.{HasReplyHead, IsReplyWritten, awaited, head_unique, nothing}
use Rattle.fk_kernel.specs.Picks.{IsPicked, after_pick, pick_refusal}
use Rattle.fk_kernel.specs.declared.read.Pick.{Pick}
use Rattle.fk_drive_frames.specs.declared.filling.FreeFields.{FreeFields}
use Rattle.fk_drive.specs.Driven.{driven}
use Rattle.fk_drive.specs.Driving.{Driven, Drives, DrivesOver, Runs, Turn, answers, idle, picked, reads, unopened, nothing as no_steps}
use Rattle.fk_drive.specs.Exchanges.{Ends, EndsAs, WentOver}
use Rattle.fk_drive.specs.KernelSteps.{IsReplyTaken}
use Rattle.fk_drive.specs.Openings.{AwaitsUntil, HasTooMany}
use Rattle.fk_drive.specs.Sending.{IsAnswerRefusedAs, IsRequestSent, SendsNext, SendsPicked, SendsUntil}
use Rattle.fk_drive.specs.Steps.{IsAwaiting, SendStep}
use Rattle.fk_drive.specs.declared.connection.Connection.{Connection}
use Rattle.fk_drive.specs.declared.end.DriveEnd.{DriveEnd}
use Rattle.fk_drive.specs.declared.end.DriveEnd.TheVariants as at
use Rattle.fk_drive.specs.declared.end.NotSent.{NotSent}
use Rattle.fk_drive.specs.declared.end.NotSent.TheVariants.{Refused}
use Rattle.fk_drive.specs.declared.end.NotSent.TheVariants.{Ended}
use Rattle.fk_drive.specs.declared.opening.Awaited.TheVariants.{Ended as AwaitEnded}
use Rattle.fk_drive.proofs.Drivings.{as_drives, drives_on, one_run, one_step, went_on}
use Rattle.fk_drive.proofs.Ending.{sends_on}

-- the device ended as the request was sent, or it did not
pub sent_until : {T : Type 0} (r : Result T DriveEnd) (new : Driven) → new.turn ≡ idle → (log : List Transfer) → EndsAs r log
    → SendsUntil r new log
sent_until (Ok _) new is log ends = (ends, is)
sent_until (Err (at.Device end)) new is log ends = ends
sent_until (Err at.Memory) new is log ends = absurd ends
sent_until (Err at.TooMany) new is log ends = absurd ends
sent_until (Err (at.Refused refusal)) new is log ends = absurd ends

-- the reply to OPENDIR did not come
pub unsaid_until : (end : DriveEnd) (new : Driven) → IsAwaiting new.turn → HasTooMany (AwaitEnded end) new.waiting
    → (log : List Transfer) → AwaitsUntil (AwaitEnded end) log → SendsUntil {T = Unit {0}} (Err end) new log
unsaid_until (at.Device end) new is many log ends = ends
unsaid_until at.Memory new is many log ends = (ends, is)
unsaid_until at.TooMany new is many log ends = (ends, is, many)
unsaid_until (at.Refused refusal) new is many log ends = absurd ends

module _ {D : Type 0} (logs : D → D → List Transfer → Type 0)
    (goes_on : (first mid last : D) (h k : List Transfer) → logs first mid h → logs mid last k → logs first last (h ++ k))
    (free_fields : FreeFields) where
  -- the request is sent behind what went before it
  pub sends_then : {T : Type 0} (r : Result T DriveEnd) (d e f : D) (a b c : Driven) → c.turn ≡ idle
      → WentOver logs d e (Ends None) (λ log. Runs (SendStep free_fields) a log b) → (log : List Transfer) → logs e f log
      → EndsAs r log → SendStep free_fields b log c
      → WentOver logs d f (SendsUntil r c) (λ log. Runs (SendStep free_fields) a log c)
  sends_then r d e f a b c is before log over ends step =
      went_on logs goes_on (SendStep free_fields) (SendsUntil r c) (sends_on r c) d e f a b c before
      (log, over, sent_until r c is log ends, one_run (SendStep free_fields) b c log step)

  -- the kernel took the error for a directory that could not be opened, or refused it
  pub answered : {A T : Type 0} (stays : (d : D) → logs d d []) (d e : D) (first : Driven) (old new : Kernel)
      (connection : Connection A) (request : Request) (unique : ℕ) → request.unique ≡ unique → (error : ℤ) (r : Result T DriveEnd)
      → WentOver logs d e (Ends None)
      (λ log. Runs (SendStep free_fields) first log (driven old connection (unopened request error)))
      → OnOk r ((bytes : List ℕ) × (written : WriteResult)
      × WrittenReply (record { unique = unique; error = error; content = empty_reply }) bytes
      × IsReplyTaken old bytes written new) → IfErr r (IsAnswerRefusedAs old unique error) → OnErr r (new ≡ old)
      → (turn : Turn) × WentOver logs d e (SendsUntil r (driven new connection turn))
      (λ log. Runs (SendStep free_fields) first log (driven new connection turn))
  answered stays d e first old new connection request unique under error (Ok x) before (bytes, written, is, takes) _ _ =
      let reply = subst (λ (u : ℕ). WrittenReply (record { unique = u; error = error; content = empty_reply }) bytes)
      (sym under) is in (
        idle,
        went_on logs goes_on (SendStep free_fields) (SendsUntil (Ok x) (driven new connection idle))
            (sends_on (Ok x) (driven new connection idle)) d e e first (driven old connection (unopened request error))
            (driven new connection idle) before (
              [],
              stays e,
              (refl, refl),
              one_run (SendStep free_fields) (driven old connection (unopened request error)) (driven new connection idle) []
                  (answers request error refl bytes reply written new takes, tt),
            ),
      )
  answered stays d e first old new connection request unique under error (Err (at.Refused refusal)) (log, over, ends, runs) _ refused same = (
    unopened request error,
    (
      log,
      over,
      (
        ends,
        subst (λ (k : Kernel). IsAnswerRefusedAs k request.unique error (at.Refused refusal)) (sym same)
            (subst (λ (u : ℕ). IsAnswerRefusedAs old u error (at.Refused refusal)) (sym under) refused),
      ),
      subst (λ (k : Kernel). Runs (SendStep free_fields) first log (driven k connection (unopened request error))) (sym same)
          runs,
    ),
  )
  answered stays d e first old new connection request unique under error (Err other) before _ refused same = absurd refused

-- what is sent once it was read is driven
pub picked_drives : (pick : Pick) (free_fields : FreeFields) (request : Request) (old : Driven) (log : List Transfer) (new : Driven)
    → old.turn ≡ idle → SendsPicked pick free_fields request old log new → Drives old log new
picked_drives pick free_fields request old log new is sends =
    let mid : Driven = record old {
      kernel = record old.kernel { queues = after_pick old.kernel.queues pick };
      turn = picked request;
    } in
    drives_on old mid new [] log (one_step old mid [] (reads is pick sends.may request sends.is))
    (as_drives (SendStep free_fields) (λ s. s) (λ a l b step. step.0) mid log new sends.sends)

-- the request that the kernel gave is sent
pub picked_sends : {A : Type 0} (pick : Pick) (free_fields : FreeFields) (request : Request) (old read : Kernel)
    (connection : Connection A) (log : List Transfer) (new : Driven) → pick_refusal old pick ≡ None
    → IsPicked old pick request → read ≡ record old { queues = after_pick old.queues pick }
    → Runs (SendStep free_fields) (driven read connection (picked request)) log new
    → SendsPicked pick free_fields request (driven old connection idle) log new
picked_sends pick free_fields request old read connection log new may is after runs = record {
  may = may;
  is = is;
  sends = subst (λ (k : Kernel). Runs (SendStep free_fields) (driven k connection (picked request)) log new) after runs;
}

-- whatever came of a call that sends the next request, it is driven
pub over_sent : {A D : Type 0} (logs : D → D → List Transfer → Type 0) (d e : D) (r : Result Request NotSent) (pick : Pick)
    (free_fields : FreeFields) (old : Driven) (kernel : Kernel) (connection : Connection A) → old.turn ≡ idle
    → (turn : Turn) × (log : List Transfer) × logs d e log
    × SendsNext r pick free_fields old log (driven kernel connection turn)
    → (turn : Turn) × IsRequestSent r turn × DrivesOver logs d e old (driven kernel connection turn)
over_sent logs d e (Ok request) pick free_fields old kernel connection is (turn, log, over, (sends, ends)) =
    (turn, ends.1, (log, over, picked_drives pick free_fields request old log (driven kernel connection turn) is sends))
over_sent logs d e (Err (Ended end)) pick free_fields old kernel connection is (turn, log, over, (request, sends, ends)) =
    (turn, tt, (log, over, picked_drives pick free_fields request old log (driven kernel connection turn) is sends))
over_sent logs d e (Err (Refused refusal)) pick free_fields old kernel connection is (turn, log, over, (none, same)) =
    let new : Driven = driven kernel connection turn in
    let stays : Drives old log new = subst (λ (l : List Transfer). Drives old l new) (sym none)
    (subst (λ (s : Driven). Drives old [] s) (sym same) no_steps) in
    (turn, ap (λ (s : Driven). s.turn) same ∙ is, (log, over, stays))

-- what the kernel's write says where it refuses nothing
pub taken_of : (old : Kernel) (bytes : List ℕ) (written : WriteResult) (new : Kernel)
    → ((HasReplyHead bytes → ⊥) → (◌≡◌ {A = Result WriteResult Refusal} (Ok written) (Ok Invalid)) × (new ≡ old))
    → (HasReplyHead bytes → awaited old (head_unique bytes) ≡ nothing
    → (◌≡◌ {A = Result WriteResult Refusal} (Ok written) (Ok NoEntry)) × (new ≡ old))
    → (HasReplyHead bytes → IsReplyWritten old (head_unique bytes) bytes (awaited old (head_unique bytes)) written new)
    → is_kernel_past_end new ≡ false → IsReplyTaken old bytes written new
taken_of old bytes written new headless unawaited taken within = record {
  headless = λ none. let (is, same) = headless none in (cc is, same);
  unawaited = λ head none. let (is, same) = unawaited head none in (cc is, same);
  taken = taken;
  within = within;
}
