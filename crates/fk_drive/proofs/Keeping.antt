-- What a frame that is received for the kernel, or is set aside, is a step of.
use Rattle.std.proofs.Common.{◌≡◌, ℕ, List, [], ◌∷◌, refl, sym, subst}
use Rattle.std.specs.Prelude.{Err}
use Rattle.fuse_device.specs.Transfers.{Transfer, stopped}
use Rattle.fk_drive_frames.specs.declared.filling.FreeFields.{FreeFields}
use Rattle.fk_drive.specs.Driving.{Driven, DriveStep, Runs, ends, nothing, sets_aside, waits}
use Rattle.fk_drive.specs.Exchanges.{StopsAt}
use Rattle.fk_drive.specs.Openings.{AwaitsUntil}
use Rattle.fk_drive.specs.Receiving.{ReceivesUntil}
use Rattle.fk_drive.specs.Steps.{IsAwaiting, IsKept, IsStillAwaiting, ReceiveStep, SendStep}
use Rattle.fk_drive.specs.declared.end.DriveEnd.{DriveEnd}
use Rattle.fk_drive.specs.declared.end.DriveEnd.TheVariants as at
use Rattle.fk_drive.specs.declared.opening.Awaited.TheVariants.{Ended}
use Rattle.fk_drive.proofs.Drivings.{one_run}

module _ (free_fields : FreeFields) where
  -- while the reply to OPENDIR is awaited, and the frame is another
  pub kept_sends : (old : Driven) (log : List Transfer) (new : Driven) (frame : List ℕ) → IsStillAwaiting old.turn frame
      → (step : DriveStep old log new) × IsKept frame step → SendStep free_fields old log new
  kept_sends old _ _ frame another (waits kept is, same) =
      (waits kept is, subst (λ (l : List ℕ). IsStillAwaiting old.turn l) (sym same) another)
  kept_sends old _ _ frame another (sets_aside kept is, same) =
      (sets_aside kept is, subst (λ (l : List ℕ). IsStillAwaiting old.turn l) (sym same) another)
  kept_sends old _ _ frame another (step, same) = absurd same

  -- the device came to its end as that was to come
  pub awaits_stopped : (end : DriveEnd) (log : List Transfer) → StopsAt end log → (a : Driven) → IsAwaiting a.turn
      → AwaitsUntil (Ended end) log × Runs (SendStep free_fields) a log a
  awaits_stopped (at.Device end) log is a awaits =
      subst (λ (l : List Transfer). AwaitsUntil (Ended (at.Device end)) l × Runs (SendStep free_fields) a l a) (sym is)
      ((refl, refl), one_run (SendStep free_fields) a a (stopped end ∷ []) (ends end, awaits))
  awaits_stopped at.Memory log is a awaits =
      subst (λ (l : List Transfer). AwaitsUntil (Ended at.Memory) l × Runs (SendStep free_fields) a l a) (sym is)
      (refl, nothing)
  awaits_stopped at.TooMany log is a awaits = absurd is
  awaits_stopped (at.Refused refusal) log is a awaits = absurd is

-- while none waits
pub kept_receives : (old : Driven) (log : List Transfer) (new : Driven) (frame : List ℕ) → old.waiting ≡ []
    → (step : DriveStep old log new) × IsKept frame step → ReceiveStep old log new
kept_receives old _ _ frame none (waits kept is, same) = (none, waits kept is, tt)
kept_receives old _ _ frame none (sets_aside kept is, same) = (none, sets_aside kept is, tt)
kept_receives old _ _ frame none (step, same) = absurd same

-- the device came to its end as a frame was to be received
pub receives_stopped : (end : DriveEnd) (log : List Transfer) → StopsAt end log → (a : Driven) → a.waiting ≡ []
    → ReceivesUntil {T = Unit {0}} (Err end) a log × Runs ReceiveStep a log a
receives_stopped (at.Device end) log is a none =
    subst (λ (l : List Transfer). ReceivesUntil {T = Unit {0}} (Err (at.Device end)) a l × Runs ReceiveStep a l a) (sym is)
    ((refl, refl), one_run ReceiveStep a a (stopped end ∷ []) (none, ends end, tt))
receives_stopped at.Memory log is a none =
    subst (λ (l : List Transfer). ReceivesUntil {T = Unit {0}} (Err at.Memory) a l × Runs ReceiveStep a l a) (sym is)
    ((refl, none), nothing)
receives_stopped at.TooMany log is a none = absurd is
receives_stopped (at.Refused refusal) log is a none = absurd is
