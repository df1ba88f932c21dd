-- What is true of the queues of a live mount stays so, whatever the kernel does without reading a request.
use Rattle.std.proofs.Common.{◌≡◌, ℕ, Bool, true, false, true≢false, not, cond, List, None, Err, Result, refl, ap, sym, subst, ◌∙◌, arith}
use Rattle.fuse_spec.specs.declared.IntrEffect.{IntrEffect}
use Rattle.fuse_spec.specs.declared.Purpose.{Purpose}
use Rattle.fuse_spec.specs.declared.Refusal.{Refusal}
use Rattle.fuse_spec.specs.declared.Refusal.TheVariants.{NotReady}
use Rattle.fuse_spec.specs.declared.WriteResult.{WriteResult}
use Rattle.fuse_spec.specs.Calls.Calls.{for_minor}
use Rattle.fuse_spec.specs.Kernel.Kernel.{Kernel, call_begun, call_signalled, is_live}
use Rattle.fuse_spec.specs.Kernel.Queues.{QueueState}
use Rattle.fuse_spec.specs.Kernel.Refusals.{refusal_in, when_live}
use Rattle.fuse_spec.specs.Kernel.Replies.{reply_written}
use Rattle.fuse_theorem.proofs.Calls.CallsContinue.{begun_goes_on}
use Rattle.fuse_theorem.proofs.Requests.QueueMoves.{ReadsNone, stays, begun_reads_none, signalled_reads_none, written_reads_none}
use Rattle.fk_kernel.specs.AwaitedReplies.{head_unique}
use Rattle.fk_drive.specs.KernelSteps.{ActsAlone, IsReplyTaken, mounts, begins, is_signalled, ticks, drops_name, evicts, aborts, gives_answer}
use Rattle.fk_drive_theorem.specs.TakenOnce.{mounts_alone}
use Rattle.fk_drive_theorem.proofs.Stable.{Stable, same_truth}
use Rattle.fk_drive_theorem.proofs.NumbersGone.{none_taken}
use Rattle.fk_drive_theorem.proofs.Taken.{TakenAs, refused_whole, is_read, holds_as_taken}
use Rattle.fk_drive_theorem.proofs.WrittenCounted.{EmptyUnlessLive}

-- what is asked of a live mount
pub when_alive : {A : Type 0} (k : Kernel) (x : Result A Refusal) → refusal_in (when_live k x) ≡ None
    → is_live k.phase ≡ true
when_alive {A} k x may = by (is_live k.phase) may
  where
    by : (b : Bool) → refusal_in (cond (not b) (Err NotReady) x) ≡ None → b ≡ true
    by true may = refl
    by false may = cc may

-- Of a live mount.
abbrev pub WhileLive : (QueueState Purpose → Type 0) → Kernel → Type 0
WhileLive Q k = is_live k.phase ≡ true → Q k.queues

module _ (Q : QueueState Purpose → Type 0) (stable : (q : QueueState Purpose) → Stable (Q q))
    (moves : (q r : QueueState Purpose) → ReadsNone q r → Q q → Q r) where
  pub taken_keeps : (old : Kernel) (bytes : List ℕ) (result : WriteResult) (new : Kernel)
      → IsReplyTaken old bytes result new → EmptyUnlessLive old → WhileLive Q old → WhileLive Q new
  taken_keeps old bytes result new taken empty was live =
      holds_as_taken old bytes result new taken (Q new.queues) (stable new.queues) by
    where
      same_keeps : new ≡ old → Q new.queues
      same_keeps same = subst (λ (k : Kernel). Q k.queues) (sym same) (was (ap (λ (k : Kernel). is_live k.phase) (sym same) ∙ live))

      by : TakenAs old bytes result new → Q new.queues
      by (refused_whole refused no_entry same) = same_keeps same
      by (is_read o wire awaits means same) = by_old (is_live old.phase) refl
        where
          to : (reply_written old (head_unique bytes) wire).1 ≡ new
          to = ap (λ (r : WriteResult × Kernel). r.1) same

          by_old : (b : Bool) → is_live old.phase ≡ b → Q new.queues
          by_old true alive = subst (λ (k : Kernel). Q k.queues) to
              (moves old.queues (reply_written old (head_unique bytes) wire).1.queues
              (written_reads_none old (head_unique bytes) wire (ap (λ (k : Kernel). is_live k.phase) to ∙ live)) (was alive))
          by_old false dead = same_keeps (sym to ∙ none_taken old (head_unique bytes) wire (empty dead).1)

  pub alone_keeps : (old new : Kernel) (acts : ActsAlone old new) → mounts_alone acts ≡ 0 → WhileLive Q old → WhileLive Q new
  alone_keeps old new (mounts may) none was live = absurd (omega (arith, none))
  alone_keeps old new (begins call may) none was live =
      let c = for_minor old.lists_files call in
      let goes = begun_goes_on old c in
      moves old.queues (call_begun old c).queues (begun_reads_none old c) (was (ap is_live (sym goes.phase) ∙ live))
  alone_keeps old new (is_signalled call fatal effect q may is) none was live =
      subst (λ (r : IntrEffect × Kernel). Q r.1.queues) is.signalled
      (moves old.queues (call_signalled old call is.state fatal).1.queues
      (signalled_reads_none old call is.state fatal) (was (when_alive old _ may)))
  alone_keeps old new (ticks ms may) none was live = was live
  alone_keeps old new (drops_name directory name may) none was live = was live
  alone_keeps old new (evicts node counted may there) none was live =
      moves old.queues new.queues (stays old.queues new.queues refl refl) (was live)
  alone_keeps old new (aborts may) none was live = absurd (true≢false (sym live))
  alone_keeps old new (gives_answer call) none was live = was live

-- ---- before the first mount

-- Without a live mount there is none after a reply.
pub taken_dead : (old : Kernel) (bytes : List ℕ) (result : WriteResult) (new : Kernel) → IsReplyTaken old bytes result new
    → EmptyUnlessLive old → is_live old.phase ≡ false → is_live new.phase ≡ false
taken_dead old bytes result new taken empty dead =
    holds_as_taken old bytes result new taken (is_live new.phase ≡ false) (same_truth (is_live new.phase) false) by
  where
    by : TakenAs old bytes result new → is_live new.phase ≡ false
    by (refused_whole refused no_entry same) = ap (λ (k : Kernel). is_live k.phase) same ∙ dead
    by (is_read o wire awaits means same) =
        ap (λ (k : Kernel). is_live k.phase) (sym (ap (λ (r : WriteResult × Kernel). r.1) same)
        ∙ none_taken old (head_unique bytes) wire (empty dead).1) ∙ dead

-- Nor after anything else but a mount.
pub alone_dead : (old new : Kernel) (acts : ActsAlone old new) → mounts_alone acts ≡ 0 → is_live old.phase ≡ false
    → is_live new.phase ≡ false
alone_dead old new (mounts may) none dead = absurd (omega (arith, none))
alone_dead old new (begins call may) none dead =
    let goes = begun_goes_on old (for_minor old.lists_files call) in ap is_live goes.phase ∙ dead
alone_dead old new (is_signalled call fatal effect q may is) none dead =
    absurd (true≢false (sym (when_alive old _ may) ∙ dead))
alone_dead old new (ticks ms may) none dead = dead
alone_dead old new (drops_name directory name may) none dead = dead
alone_dead old new (evicts node counted may there) none dead = dead
alone_dead old new (aborts may) none dead = refl
alone_dead old new (gives_answer call) none dead = dead
