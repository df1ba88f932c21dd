-- Each step of a run keeps what holds of numbers, and sends what may be sent.
use Rattle.std.proofs.Common.{◌≡◌, ℕ, ◌≤◌, ◌^◌, List, [], Some, None, refl, ap, sym, ◌∙◌, arith}
use Rattle.fuse_device.specs.Transfers.{Transfer}
use Rattle.fuse_spec.specs.declared.Opened.{Opened}
use Rattle.fuse_spec.specs.declared.WriteResult.{WriteResult}
use Rattle.fuse_spec.specs.Kernel.Kernel.{Kernel, kernel_mounted}
use Rattle.fuse_spec.specs.Kernel.Messages.{Request}
use Rattle.fk_drive.specs.Driving.{Driven, DriveStep, ReleasesBehind, alone, reads, sends as sends_step, opens, is_given, is_not_known, is_refused, is_garbled, sends_opened, answers, waits, sets_aside, writes, is_released, ends as ends_step, releases, releases_none}
use Rattle.fk_drive.specs.KernelSteps.{ActsAlone, IsReplyTaken, mounts}
use Rattle.fk_drive_theorem.specs.TakenOnce.{mounts_alone, mounts_at}
use Rattle.fk_drive_theorem.proofs.OneEach.{OneEach}
use Rattle.fk_drive_theorem.proofs.WrittenCounted.{EmptyUnlessLive}
use Rattle.fuse_sessions.specs.Sessions.{Session}
use Rattle.driven_sessions.proofs.Frames.{opendir_head, releasedir_head}
use Rattle.driven_sessions.proofs.Numbers.{Numbered, Passed, moves_numbered, moves_passed, numbered_stable, passed_stable}
use Rattle.driven_sessions.proofs.Reading.{picked_alive, picks, reads_keeps}
use Rattle.driven_sessions.proofs.Spent.{Goes, Keeps, KernelKeeps, Spent, ends, held, held_goes, keeps_still, none_held, nothing, of_kernel, own, own_goes, quiet, receives, same_keeps}
use Rattle.driven_sessions.proofs.Steps.{alone_dead, alone_keeps, taken_dead, taken_keeps}

alone_kernel : (old new : Kernel) (acts : ActsAlone old new) → mounts_alone acts ≡ 0 → KernelKeeps old new
alone_kernel old new acts none = record {
  numbered = alone_keeps Numbered numbered_stable moves_numbered old new acts none;
  passed = λ u. alone_keeps (Passed u) (passed_stable u) (moves_passed u) old new acts none;
  dead = alone_dead old new acts none;
}

taken_kernel : (old : Kernel) (bytes : List ℕ) (result : WriteResult) (new : Kernel) → IsReplyTaken old bytes result new
    → EmptyUnlessLive old → KernelKeeps old new
taken_kernel old bytes result new taken empty = record {
  numbered = taken_keeps Numbered numbered_stable moves_numbered old bytes result new taken empty;
  passed = λ u. taken_keeps (Passed u) (passed_stable u) (moves_passed u) old bytes result new taken empty;
  dead = taken_dead old bytes result new taken empty;
}

-- A mount, where none was before.
mounted : (d : Driven) (s : Session) → Keeps 0 d s → Keeps 1 (record d { kernel = kernel_mounted d.kernel }) s
mounted d s keeps = record {
  numbered = λ live. record { next = refl; requests = ((refl, omega arith), tt) };
  holds = λ r is. absurd (none_held (held d.turn) r (keeps.before refl).1 is);
  low = keeps.low;
  even = keeps.even;
  spent = λ u is. by u (keeps.spent u is);
  before = λ zero. absurd (omega (arith, zero));
}
  where
    by : (u : ℕ) → Spent 0 d u → Spent 1 (record d { kernel = kernel_mounted d.kernel }) u
    by u (own high low) = own high low
    by u (of_kernel some n free) = absurd (omega (arith, some))

module _ (count : ℕ) (s : Session) where
  -- nothing is sent, and what is held stays or is gone
  still : (d new : Driven) → Keeps count d s → KernelKeeps d.kernel new.kernel
      → ((r : Request) → held new.turn ≡ Some r → held d.turn ≡ Some r) → (held d.turn ≡ None → held new.turn ≡ None)
      → new.next ≡ d.next → Keeps count new s
  still d new keeps kernel holds none next = keeps_still count d new s s keeps kernel holds none next (λ u is. is)

  -- RELEASEDIR behind a frame, where nothing is held
  releasing : (d new : Driven) → Keeps count d s → KernelKeeps d.kernel new.kernel → held d.turn ≡ None
      → (frame : List ℕ) (log : List Transfer) (directories : List (ℕ × Opened))
      → ReleasesBehind frame d.next d.directories log new.next directories new.turn → Goes count s new log
  releasing d new keeps kernel none frame log directories
      (releases head below before after directory there apart bytes is log' went) =
      own_goes count d new s keeps kernel (sym none) refl below bytes (releasedir_head bytes d.next directory is below) log went
  releasing d new keeps kernel none frame log directories (releases_none unlisted) =
      quiet [] nothing (still d new keeps kernel (λ r is. none ∙ is) (λ is. refl) refl)

  -- a step without a mount
  pub step_goes : (old : Driven) (log : List Transfer) (new : Driven) (step : DriveStep old log new) → mounts_at step ≡ 0
      → EmptyUnlessLive old.kernel → OneEach old.kernel.queues → old.kernel.queues.next ≤ 2 ^ 62
      → new.kernel.queues.next ≤ 2 ^ 62 → Keeps count old s → Goes count s new log
  step_goes old log new (alone k acts) none empty one within few keeps = quiet [] nothing
      (still old new keeps (alone_kernel old.kernel k acts none) (λ r is. is) (λ is. is) refl)
  step_goes old log new (reads idles pick may request is) none empty one within few keeps =
      let live = picked_alive old.kernel pick may in
      quiet [] nothing (reads_keeps count old s new.kernel request keeps (ap held idles) live
      (picks old.kernel live (keeps.numbered live) one within pick request is few))
  step_goes old log new (sends_step request turn unlisted frame says log' went) none empty one within few keeps =
      held_goes count old new s keeps request (ap held turn) refl refl refl frame says.says log went
  step_goes old log new (opens request turn asks below node lists frame is log' went) none empty one within few keeps =
      own_goes count old new s keeps (same_keeps old.kernel) (sym (ap held turn)) refl below frame
      (opendir_head frame old.next node is below) log went
  step_goes old log new (is_given request unique node turn frame fh gives) none empty one within few keeps =
      quiet log (receives frame) (still old new keeps (same_keeps old.kernel) (λ r is. ap held turn ∙ is)
      (λ is. sym (ap held turn) ∙ is) refl)
  step_goes old log new (is_not_known request unique node turn frame gives) none empty one within few keeps =
      quiet log (receives frame) (still old new keeps (same_keeps old.kernel) (λ r is. ap held turn ∙ is)
      (λ is. sym (ap held turn) ∙ is) refl)
  step_goes old log new (is_refused request unique node turn frame error other gives) none empty one within few keeps =
      quiet log (receives frame) (still old new keeps (same_keeps old.kernel) (λ r is. ap held turn ∙ is)
      (λ is. sym (ap held turn) ∙ is) refl)
  step_goes old log new (is_garbled request unique node turn frame head same gives) none empty one within few keeps =
      quiet log (receives frame) (still old new keeps (same_keeps old.kernel) (λ r is. ap held turn ∙ is)
      (λ is. sym (ap held turn) ∙ is) refl)
  step_goes old log new (sends_opened request fh turn frame says handle log' went) none empty one within few keeps =
      held_goes count old new s keeps request (ap held turn) refl refl refl frame says.says log went
  step_goes old log new (answers request error turn bytes written result k taken) none empty one within few keeps =
      quiet [] nothing (still old new keeps (taken_kernel old.kernel bytes result k taken empty)
      (λ r is. absurd (none_held None r refl is)) (λ is. refl) refl)
  step_goes old log new (waits frame own_one) none empty one within few keeps =
      quiet log (receives frame) (still old new keeps (same_keeps old.kernel) (λ r is. is) (λ is. is) refl)
  step_goes old log new (sets_aside frame other) none empty one within few keeps =
      quiet log (receives frame) (still old new keeps (same_keeps old.kernel) (λ r is. is) (λ is. is) refl)
  step_goes old log new (writes idles frame rest there handed on result k taken log' next directories turn behind) none empty
      one within few keeps = releasing old new keeps (taken_kernel old.kernel handed result k taken empty) (ap held idles)
      frame log directories behind
  step_goes old log new (is_released unique turn frame head same) none empty one within few keeps =
      quiet log (receives frame) (still old new keeps (same_keeps old.kernel) (λ r is. ap held turn ∙ is)
      (λ is. sym (ap held turn) ∙ is) refl)
  step_goes old log new (ends_step end) none empty one within few keeps =
      quiet log (ends end) (still old new keeps (same_keeps old.kernel) (λ r is. is) (λ is. is) refl)

-- a step that mounts
pub mount_goes : (s : Session) (old : Driven) (log : List Transfer) (new : Driven) (step : DriveStep old log new)
    → mounts_at step ≡ 1 → Keeps 0 old s → Goes 1 s new log
mount_goes s old log new (alone k (mounts may)) one keeps = quiet [] nothing (mounted old s keeps)
mount_goes s old log new (alone k acts) one keeps = absurd (omega (arith, one))
mount_goes s old log new step one keeps = absurd (omega (arith, one))
