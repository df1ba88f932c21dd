-- What writing the next frame to the kernel comes to.
use Rattle.std.specs.Prelude.{◌≡◌, ◌↔◌, ℕ, IsTrue, List, ◌∷◌, ◌++◌, None, Result, Ok, Err}
use Rattle.fuse_spec.specs.declared.Refusal.{Refusal}
use Rattle.fuse_spec.specs.Kernel.Kernel.{Kernel}
use Rattle.fuse_device.specs.Transfers.{Transfer}
use Rattle.fk_drive_frames.specs.Agreements.{IsHandedOn, IsOlderAgreement}
use Rattle.fk_drive.specs.Driven.{waiting_in}
use Rattle.fk_drive.specs.Driving.{Driven, DriveStep, Runs, writes}
use Rattle.fk_drive.specs.Exchanges.{Ends}
use Rattle.fk_drive.specs.KernelSteps.{IsReplyTaken}
use Rattle.fk_drive.specs.Receiving.{ReceivesUntil}
use Rattle.fk_drive.specs.Releasing.{EndsBehind, ReleaseStep}
use Rattle.fk_drive.specs.Steps.{ReceiveStep}
use Rattle.fk_drive.specs.declared.connection.Connection.{Connection}
use Rattle.fk_drive.specs.declared.end.DriveEnd.{DriveEnd}
use Rattle.fk_drive.specs.declared.writing.Written.{Written}

-- A step writes this frame to the kernel, with this result.
abbrev pub IsWriteOf : {A : Type 0} → Written A → {old : Driven} {log : List Transfer} {new : Driven} → DriveStep old log new
    → Type 0
IsWriteOf written (writes idles frame rest waits handed is result kernel taken log next directories turn behind) =
    (written.frame.items ≡ frame) × (written.result ≡ result) × (IsTrue written.is_raised ↔ IsOlderAgreement frame)
IsWriteOf written step = ⊥

-- The first frame that waits is written to the kernel, and waits no longer.
pub record WritesFirst {A : Type 0} (kernel : Kernel) (old : Connection A) (after : Kernel) (new : Connection A)
    (written : Written A) : Type 0 where
  pub first : waiting_in old ≡ written.frame.items ∷ waiting_in new
  pub same : new ≡ record old { waiting = new.waiting }
  pub handed : List ℕ
  pub on : IsHandedOn written.frame.items handed
  pub raised : IsTrue written.is_raised ↔ IsOlderAgreement written.frame.items
  pub taken : IsReplyTaken kernel handed written.result after

-- Frames are received until one waits, and the first that waits is written to the kernel. Where RELEASEDIR goes behind it,
-- frames are received until its reply.
pub data WritesFrame {A : Type 0} (written : Written A) (old : Driven) : List Transfer → Driven → Type 0 where
  writes_frame : (before : List Transfer) (mid : Driven) → Runs ReceiveStep old before mid → (log : List Transfer)
      (done : Driven) (step : DriveStep mid log done) → IsWriteOf written step → (more : List Transfer) (new : Driven)
      → Runs ReleaseStep done more new → WritesFrame written old (before ++ (log ++ more)) new

-- By the result: a frame is written; one waits, and the kernel refused it; or receiving failed.
abbrev pub WritesNext : {A : Type 0} → Result (Result (Written A) Refusal) DriveEnd → Driven → List Transfer → Driven → Type 0
WritesNext (Ok (Ok written)) old log new = WritesFrame written old log new × EndsBehind written.end new log
WritesNext (Ok (Err refusal)) old log new = Runs ReceiveStep old log new × Ends None log × (new.turn ≡ old.turn)
WritesNext (Err end) old log new = Runs ReceiveStep old log new × ReceivesUntil {T = Unit {0}} (Err end) new log
    × (new.turn ≡ old.turn)
