-- Each call is answered at most once in any run.
use Rattle.std.proofs.Common.{◌≡◌, ℕ, ◌<◌, List, Option, Some, None, refl, ap, sym, subst}
use Rattle.fuse_spec.specs.declared.IntrEffect.{IntrEffect}
use Rattle.fuse_spec.specs.declared.Opened.{Opened}
use Rattle.fuse_spec.specs.declared.WriteResult.{WriteResult}
use Rattle.fuse_spec.specs.Calls.Answers.{Answer}
use Rattle.fuse_spec.specs.Calls.Calls.{for_minor}
use Rattle.fuse_spec.specs.Calls.Vfs.{Vfs}
use Rattle.fuse_spec.specs.Kernel.Kernel.{Kernel}
use Rattle.fuse_spec.specs.Values.Maps.{get}
use Rattle.fuse_device.specs.Transfers.{Transfer}
use Rattle.fk_kernel.specs.AwaitedReplies.{head_unique}
use Rattle.fk_drive.specs.Driving.{Driven, DriveStep, Drives, alone, answers, writes, nothing, next}
use Rattle.fk_drive.specs.KernelSteps.{ActsAlone, IsReplyTaken, mounts, begins, is_signalled, ticks, drops_name, evicts, aborts, gives_answer}
use Rattle.fuse_theorem.proofs.Nodes.NodesSound.{left_found}
use Rattle.fk_drive_theorem.specs.AnsweredOnce.{AnsweredOnce}
use Rattle.fk_drive_theorem.proofs.Stable.{Stable, at_most, is_nothing, is_something}
use Rattle.fk_drive_theorem.proofs.SameAnswers.{same_answer}
use Rattle.fk_drive_theorem.proofs.Taken.{TakenAs, refused_whole, is_read, holds_as_taken}
use Rattle.fk_drive_theorem.proofs.CallsOver.{as_they_were, and_then, answers_given, abandons, call_begins, call_signals, reply_receives}

-- That calls are over so holds as soon as it is not false.
stays_stable : (c d : Vfs Opened) → Stable (AnsweredOnce c d)
stays_stable c d s = record {
  numbers = at_most c.next_call d.next_call (λ no. s (λ once. no once.numbers));
  over = λ q low none. is_nothing (get d.calls q) (λ no. s (λ once. no (once.over q low none)));
  same = λ q low none a at. is_something same_answer (get c.answers q) a
      (λ no. s (λ once. no (once.same q low none a at)));
}

taken_once : (old : Kernel) (bytes : List ℕ) (result : WriteResult) (new : Kernel) → IsReplyTaken old bytes result new
    → AnsweredOnce old.vfs new.vfs
taken_once old bytes result new taken =
    holds_as_taken old bytes result new taken (AnsweredOnce old.vfs new.vfs) (stays_stable old.vfs new.vfs) by
  where
    to : (k : Kernel) → new ≡ k → AnsweredOnce old.vfs k.vfs → AnsweredOnce old.vfs new.vfs
    to k same once = subst (λ (q : Kernel). AnsweredOnce old.vfs q.vfs) (sym same) once

    by : TakenAs old bytes result new → AnsweredOnce old.vfs new.vfs
    by (refused_whole refused no_entry same) = to old same (as_they_were old.vfs)
    by (is_read o wire is means same) =
        to _ (sym (ap (λ (r : WriteResult × Kernel). r.1) same)) (reply_receives old (head_unique bytes) wire)

alone_once : (old new : Kernel) → ActsAlone old new → AnsweredOnce old.vfs new.vfs
alone_once old new (mounts may) = abandons old.vfs
alone_once old new (begins call may) = call_begins old (for_minor old.lists_files call)
alone_once old new (is_signalled call fatal effect q may is) =
    subst (λ (r : IntrEffect × Kernel). AnsweredOnce old.vfs r.1.vfs) is.signalled
    (call_signals old call is.state fatal is.unanswered)
alone_once old new (ticks ms may) = answers_given old.vfs _ refl refl (λ q a at. at)
alone_once old new (drops_name directory name may) = answers_given old.vfs _ refl refl (λ q a at. at)
alone_once old new (evicts node counted may there) = as_they_were old.vfs
alone_once old new (aborts may) = abandons old.vfs
alone_once old new (gives_answer call) =
    answers_given old.vfs _ refl refl (λ q a at. left_found old.vfs.answers call q a at)

step_once : (old : Driven) (log : List Transfer) (new : Driven) → DriveStep old log new
    → AnsweredOnce old.kernel.vfs new.kernel.vfs
step_once old log new (alone k acts) = alone_once old.kernel k acts
step_once old log new (answers request error turn bytes written result k taken) =
    taken_once old.kernel bytes result k taken
step_once old log new (writes idles frame rest there handed on result k taken went next_own left turn behind) = taken_once old.kernel handed result k taken
step_once old log new step = as_they_were old.kernel.vfs

-- Each call is answered at most once.
pub run_once : (old : Driven) (log : List Transfer) (new : Driven) → Drives old log new
    → AnsweredOnce old.kernel.vfs new.kernel.vfs
run_once old log new nothing = as_they_were old.kernel.vfs
run_once old log new (next before mid run last end step) =
    and_then old.kernel.vfs mid.kernel.vfs new.kernel.vfs (run_once old before mid run) (step_once mid last end step)

-- A call whose answer is collected has none ever after.
pub run_collected : (old : Driven) (log : List Transfer) (new : Driven) → Drives old log new → (call : ℕ)
    → call < old.kernel.vfs.next_call → get old.kernel.vfs.calls call ≡ None → get old.kernel.vfs.answers call ≡ None
    → get new.kernel.vfs.answers call ≡ None
run_collected old log new run call low none collected = by (get new.kernel.vfs.answers call) refl
  where
    by : (o : Option Answer) → get new.kernel.vfs.answers call ≡ o → get new.kernel.vfs.answers call ≡ None
    by None at = at
    by (Some a) at = absurd (cc (collected, (run_once old log new run).same call low none a at))
