-- No reply is taken twice in a run without a mount.
use Rattle.std.proofs.Common.{◌≡◌, ◌≢◌, ℕ, ◌+◌, ◌-◌, ◌≤◌, ◌<◌, Bool, true, false, cond, List, Option, Some, None, drop, nat_eq, refl, ap, sym, subst, ◌∙◌, arith}
use Rattle.std.specs.Prelude.{◌%◌, nat_lt}
use Rattle.std.proofs.lemmas.Bool.Decides.{nat_tests}
use Rattle.std.specs.Option.{option_map_or}
use Rattle.fuse_spec.specs.declared.IntrEffect.{IntrEffect}
use Rattle.fuse_spec.specs.declared.Purpose.{Purpose}
use Rattle.fuse_spec.specs.declared.QueuedRequest.{QueuedRequest}
use Rattle.fuse_spec.specs.declared.WriteResult.{WriteResult}
use Rattle.fuse_spec.specs.Calls.Calls.{for_minor}
use Rattle.fuse_spec.specs.Kernel.Kernel.{Kernel}
use Rattle.fuse_spec.specs.Kernel.Messages.{WireReply}
use Rattle.fuse_spec.specs.Kernel.QueueCalls.{can_read_forgets, waiting, without}
use Rattle.fuse_spec.specs.Kernel.Queues.{is_unread, request_under}
use Rattle.fuse_spec.specs.Kernel.Replies.{interrupt_reply_written, reply_written, request_reply_written}
use Rattle.fuse_spec.proofs.QueueCounts.{key_count, lookup-no_key}
use Rattle.fk_wire.specs.declared.opcode.Opcode.{Opcode}
use Rattle.fuse_device.specs.Transfers.{Transfer}
use Rattle.fk_kernel.specs.AwaitedReplies.{awaited, awaited_by, awaited_by_interrupt, head_unique, nothing as nothing_awaited, reply_to}
use Rattle.fk_kernel.specs.Picks.{after_pick}
use Rattle.fk_kernel.specs.declared.read.Pick.{Pick}
use Rattle.fk_kernel.specs.declared.read.Pick.TheVariants.{Interrupt, Forgets, Pending}
use Rattle.fk_drive.specs.Driving.{Driven, DriveStep, Drives, first_driven, alone, reads, answers, writes, nothing, next}
use Rattle.fk_drive.specs.KernelSteps.{ActsAlone, IsReplyTaken, mounts, begins, is_signalled, ticks, drops_name, evicts, aborts, gives_answer}
use Rattle.fk_drive_theorem.specs.TakenOnce.{NoneAgain, TakesNone, TakesReplyTo, mounts_alone, mounts_at, mounts_in, request_number}
use Rattle.fk_drive_theorem.proofs.OneEach.{OneEach, one_removed, run_one}
use Rattle.fk_drive_theorem.proofs.NumbersGone.{ended_gone, Gone, Left, gone_stable, left_gone, same_gone, aborted_gone, begun_gone, signalled_gone, read_gone, written_gone}
use Rattle.fk_drive_theorem.proofs.Taken.{TakenAs, refused_whole, is_read, holds_as_taken}

-- Where no request waits under its number a reply awaits nothing.
pub awaits_none : (k : Kernel) (unique : ℕ) → request_under k.queues (request_number unique) ≡ None
    → awaited k unique ≡ nothing_awaited
awaits_none k unique none = by (nat_eq (unique % 2) 1) none
  where
    waits : (v : ℕ) → request_under k.queues v ≡ None → waiting k.queues v ≡ None
    waits v gone = ap (λ (o : Option (QueuedRequest Purpose)). option_map_or
        (λ r. cond (is_unread r.mark) None (Some r.kept)) o None) gone

    by : (b : Bool) → request_under k.queues (cond b (unique - 1) unique) ≡ None
        → cond b (awaited_by_interrupt (waiting k.queues (unique - 1))) (awaited_by k (waiting k.queues unique))
        ≡ nothing_awaited
    by true gone = ap awaited_by_interrupt (waits (unique - 1) gone)
    by false gone = ap (awaited_by k) (waits unique gone)

module _ (u : ℕ) where
  taken_gone : (old : Kernel) (bytes : List ℕ) (result : WriteResult) (new : Kernel) → IsReplyTaken old bytes result new
      → Gone u old → Gone u new
  taken_gone old bytes result new taken gone =
      holds_as_taken old bytes result new taken (Gone u new) (gone_stable u new) by
    where
      by : TakenAs old bytes result new → Gone u new
      by (refused_whole refused no_entry same) = subst (Gone u) (sym same) gone
      by (is_read o wire is means same) =
          subst (λ (r : WriteResult × Kernel). Gone u r.1) same (written_gone u old (head_unique bytes) wire gone)

  picked_gone : (k : Kernel) (pick : Pick) → Gone u k → Gone u (record k { queues = after_pick k.queues pick })
  picked_gone k Interrupt gone = same_gone u k _ gone refl (omega arith) refl
  picked_gone k (Forgets count) gone = by (can_read_forgets k.queues count)
    where
      by : (b : Bool) → Gone u (record k {
        queues = cond b (record k.queues { forgets = drop count k.queues.forgets; next = k.queues.next + 2 }) k.queues;
      })
      by true = same_gone u k _ gone refl (omega arith) refl
      by false = gone
  picked_gone k (Pending place) gone = read_gone u k place gone

  alone_gone : (old new : Kernel) (acts : ActsAlone old new) → mounts_alone acts ≡ 0 → Gone u old → Gone u new
  alone_gone old new (mounts may) none gone = absurd (omega (arith, none))
  alone_gone old new (begins call may) none gone = begun_gone u old (for_minor old.lists_files call) gone
  alone_gone old new (is_signalled call fatal effect q may is) none gone =
      subst (λ (r : IntrEffect × Kernel). Gone u r.1) is.signalled (signalled_gone u old call is.state fatal gone)
  alone_gone old new (ticks ms may) none gone = same_gone u old _ gone refl (omega arith) refl
  alone_gone old new (drops_name directory name may) none gone = same_gone u old _ gone refl (omega arith) refl
  alone_gone old new (evicts node counted may there) none gone = same_gone u old _ gone refl (omega arith) refl
  alone_gone old new (aborts may) none gone = aborted_gone u old
  alone_gone old new (gives_answer call) none gone = same_gone u old _ gone refl (omega arith) refl

  step_gone : (old : Driven) (log : List Transfer) (new : Driven) (step : DriveStep old log new) → mounts_at step ≡ 0
      → Gone u old.kernel → Gone u new.kernel
  step_gone old log new (alone k acts) none gone = alone_gone old.kernel k acts none gone
  step_gone old log new (reads idle pick may request is) none gone = picked_gone old.kernel pick gone
  step_gone old log new (answers request error turn bytes written result k taken) none gone =
      taken_gone old.kernel bytes result k taken gone
  step_gone old log new (writes idles frame rest there handed on result k taken went next_own left turn behind) none gone =
      taken_gone old.kernel handed result k taken gone
  step_gone old log new step none gone = gone

  -- A number that is gone stays so.
  pub run_gone : (old : Driven) (log : List Transfer) (new : Driven) (run : Drives old log new) → mounts_in run ≡ 0
      → Gone u old.kernel → Gone u new.kernel
  run_gone old log new nothing none gone = gone
  run_gone old log new (next before mid run last end step) none gone =
      step_gone mid last end step (omega (arith, none)) (run_gone old before mid run (omega (arith, none)) gone)

-- A reply to it is refused.
takes_none : (number : ℕ) (k : Kernel) → request_under k.queues number ≡ None → TakesNone number k
takes_none number k none bytes head is result after taken =
    taken.unawaited head (awaits_none k (head_unique bytes) (ap (request_under k.queues) is ∙ none))

pub run_none_again : (old : Driven) (log : List Transfer) (new : Driven) (run : Drives old log new) → mounts_in run ≡ 0
    → NoneAgain old.kernel new.kernel
run_none_again old log new run no_mount = record {
  none_waits = stays;
  takes_none = λ number low none. takes_none number new.kernel (stays number low none);
}
  where
    stays : (number : ℕ) → number < old.kernel.queues.next → request_under old.kernel.queues number ≡ None
        → request_under new.kernel.queues number ≡ None
    stays number low none = (run_gone number old log new run no_mount (left_gone number old.kernel (low, none))).none

-- ---- a reply that was taken

module _ (old : Kernel) (number : ℕ) (new : Kernel) (one : OneEach old.queues)
    (takes : TakesReplyTo number old new) where
  even : nat_eq (number % 2) 1 ≡ false
  even = ap (λ (n : ℕ). nat_eq n 1) takes.no_interrupt

  -- what is awaited was allocated
  allocated : awaited old number ≢ nothing_awaited → number < old.queues.next
  allocated some = by (nat_lt number old.queues.next) refl
    where
      by : (b : Bool) → nat_lt number old.queues.next ≡ b → number < old.queues.next
      by true e = grind (arith, nat_tests, e)
      by false e =
          let few : key_count number old.queues.requests ≤ 0 =
          subst (λ (b : Bool). key_count number old.queues.requests ≤ cond b 1 0) e (one number) in
          let none : request_under old.queues number ≡ None =
          lookup-no_key number old.queues.requests (omega (arith, few)) in
          absurd (some (awaits_none old number
          (ap (λ (b : Bool). request_under old.queues (cond b (number - 1) number)) even ∙ none)))

  -- its request ends
  less : awaited old number ≢ nothing_awaited → Left number (without old.queues number)
  less some = (allocated some, one_removed number old.queues one)

  read_ends : (o : Opcode) (wire : WireReply) → awaited old number ≡ reply_to o
      → Gone number (reply_written old number wire).1
  read_ends o wire is = subst (λ (b : Bool). Gone number (cond b (interrupt_reply_written old number wire
      (waiting old.queues (number - 1))) (request_reply_written old number wire (waiting old.queues number))).1)
      (sym even) (by (waiting old.queues number) refl)
    where
      some : awaited old number ≢ nothing_awaited
      some e = cc (is, e)

      by : (w : Option Purpose) → waiting old.queues number ≡ w
          → Gone number (request_reply_written old number wire w).1
      by None waits = absurd (some (ap (λ (b : Bool). cond b (awaited_by_interrupt (waiting old.queues (number - 1)))
          (awaited_by old (waiting old.queues number))) even ∙ ap (awaited_by old) waits))
      by (Some kept) waits = ended_gone number old number wire kept (less some)

  -- Its number is gone.
  pub taken_ends : Gone number new
  taken_ends = holds_as_taken old takes.bytes takes.result new takes.taken (Gone number new) (gone_stable number new) by
    where
      by : TakenAs old takes.bytes takes.result new → Gone number new
      by (refused_whole refused no_entry same) = absurd (takes.awaited (no_entry takes.head))
      by (is_read o wire is means same) =
          let mine : awaited old number ≡ reply_to o = ap (awaited old) (sym takes.under) ∙ is in
          let to : (reply_written old number wire).1 ≡ new =
          ap (λ (n : ℕ). (reply_written old n wire).1) (sym takes.under)
          ∙ ap (λ (r : WriteResult × Kernel). r.1) same in
          subst (Gone number) to (read_ends o wire mine)

-- A reply that was taken is not taken again.
pub run_takes_once : (asks : Bool) (before : List Transfer) (old : Driven) → Drives (first_driven asks) before old
    → (number : ℕ) (mid : Driven) → TakesReplyTo number old.kernel mid.kernel
    → (log : List Transfer) (new : Driven) (run : Drives mid log new) → mounts_in run ≡ 0 → TakesNone number new.kernel
run_takes_once asks before old first number mid takes log new run no_mount =
    takes_none number new.kernel (run_gone number mid log new run no_mount
    (taken_ends old.kernel number mid.kernel (run_one asks before old first) takes)).none
