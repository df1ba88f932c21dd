-- How steps follow one another.
use Rattle.std.proofs.Common.{◌≡◌, List, [], ◌∷◌, ◌++◌, sym, subst, append_assoc, append-nil, Option, Some, None}
use Rattle.fuse_device.specs.Transfers.{Transfer, received, sent, unsent, stopped}
use Rattle.fuse_device.specs.declared.device.DeviceEnd.{DeviceEnd}
use Rattle.fk_drive.specs.Exchanges.{Ends, WentOver}
use Rattle.fk_drive.specs.Driving.{Driven, Drives, DrivesOver, DriveStep, Runs, next, nothing}

module _ {S : Type 0} (Step : S → List Transfer → S → Type 0) where
  pub runs_on : (a b c : S) (h k : List Transfer) → Runs Step a h b → Runs Step b k c → Runs Step a (h ++ k) c
  runs_on a b c h _ one nothing = subst (λ (l : List Transfer). Runs Step a l b) (sym (append-nil h)) one
  runs_on a b c h _ one (next before mid two log new step) =
      subst (λ (l : List Transfer). Runs Step a l new) (append_assoc h before log)
      (next (h ++ before) mid (runs_on a b mid h before one two) log new step)

  pub one_run : (a b : S) (log : List Transfer) → Step a log b → Runs Step a log b
  one_run a b log step = next [] a nothing log b step

  -- steps of this kind are steps of a driven run
  pub as_drives : (state : S → Driven)
      → ((a : S) (log : List Transfer) (b : S) → Step a log b → DriveStep (state a) log (state b))
      → (a : S) (log : List Transfer) (b : S) → Runs Step a log b → Drives (state a) log (state b)
  as_drives state is a _ _ nothing = nothing
  as_drives state is a _ _ (next before mid run log new step) =
      next before (state mid) (as_drives state is a before mid run) log (state new) (is mid log new step)

pub drives_on : (a b c : Driven) (h k : List Transfer) → Drives a h b → Drives b k c → Drives a (h ++ k) c
drives_on = runs_on DriveStep

pub one_step : (a b : Driven) (log : List Transfer) → DriveStep a log b → Drives a log b
one_step = one_run DriveStep

-- nothing was asked of the device behind its end
pub ends_on : (end : Option DeviceEnd) (h k : List Transfer) → Ends None h → Ends end k → Ends end (h ++ k)
ends_on end [] k none ends = ends
ends_on end (received frame ∷ h) k none ends = ends_on end h k none ends
ends_on end (sent frame result ∷ h) k none ends = ends_on end h k none ends
ends_on end (unsent frame came ∷ h) k none ends = let no : ◌≡◌ {A = Option DeviceEnd} None (Some came) = none.0 in absurd (cc no)
ends_on end (stopped came ∷ h) k none ends = let no : ◌≡◌ {A = Option DeviceEnd} None (Some came) = none.0 in absurd (cc no)

module _ {D : Type 0} (logs : D → D → List Transfer → Type 0)
    (goes_on : (first mid last : D) (h k : List Transfer) → logs first mid h → logs mid last k → logs first last (h ++ k)) where
  pub over_on : (d e f : D) (a b c : Driven) → DrivesOver logs d e a b → DrivesOver logs e f b c → DrivesOver logs d f a c
  over_on d e f a b c (h, one, drives) (k, two, drives_more) =
      (h ++ k, goes_on d e f h k one two, drives_on a b c h k drives drives_more)

  -- one run of such steps after another, which has an end only where the second has
  pub went_on : {S : Type 0} (Step : S → List Transfer → S → Type 0) (IsEnd : List Transfer → Type 0)
      → ((h k : List Transfer) → Ends None h → IsEnd k → IsEnd (h ++ k)) → (d e f : D) (a b c : S)
      → WentOver logs d e (Ends None) (λ log. Runs Step a log b) → WentOver logs e f IsEnd (λ log. Runs Step b log c)
      → WentOver logs d f IsEnd (λ log. Runs Step a log c)
  went_on Step IsEnd ends d e f a b c (h, one, none, runs) (k, two, end, runs_more) =
      (h ++ k, goes_on d e f h k one two, ends h k none end, runs_on Step a b c h k runs runs_more)
