-- The kernel's coming number never passes its limit: what would have it pass is refused.
use Rattle.std.proofs.Common.{◌≡◌, ℕ, ◌≤◌, ◌^◌, Bool, true, false, not, List, Option, Some, None, Result, nat_eq, nat_le, length, slice_get, refl, subst, arith}
use Rattle.std.specs.Option.{option_map_or}
use Rattle.fuse_spec.specs.declared.IntrEffect.{IntrEffect}
use Rattle.fuse_spec.specs.declared.Mark.{Mark}
use Rattle.fuse_spec.specs.declared.Mark.TheVariants as mark
use Rattle.fuse_spec.specs.declared.Opened.{Opened}
use Rattle.fuse_spec.specs.declared.Purpose.{Purpose}
use Rattle.fuse_spec.specs.declared.Refusal.{Refusal}
use Rattle.fuse_spec.specs.declared.Refusal.TheVariants.{Exhausted, Full, InterruptFirst, NotReady}
use Rattle.fuse_spec.specs.Calls.Calls.{Call, for_minor}
use Rattle.fuse_spec.specs.Calls.Vfs.{CallState}
use Rattle.fuse_spec.specs.Kernel.Kernel.{Kernel, call_begun, call_signalled, forgets_read, is_live}
use Rattle.fuse_spec.specs.Kernel.Messages.{Forget}
use Rattle.fuse_spec.specs.Kernel.QueueCalls.{after_read_forgets, after_reading}
use Rattle.fuse_spec.specs.Kernel.Queues.{QueueState, pending}
use Rattle.fuse_spec.specs.Kernel.Refusals.{accepted, found, is_kernel_past_end, is_ready, refusal_in, unless}
use Rattle.fuse_spec.specs.Values.Maps.{get}
use Rattle.fuse_spec.specs.Values.Numbers.{max_calls}
use Rattle.fuse_device.specs.Transfers.{Transfer}
use Rattle.fk_kernel.specs.Picks.{after_pick, pick_refusal}
use Rattle.fk_kernel.specs.Refused.{begin_refusal, signal_refusal, within_counters}
use Rattle.fk_kernel.specs.declared.read.Pick.{Pick}
use Rattle.fk_kernel.specs.declared.read.Pick.TheVariants.{Interrupt, Forgets, Pending}
use Rattle.fk_kernel.proofs.Phases.{within_ends}
use Rattle.fk_drive.specs.Driving.{Driven, DriveStep, Drives, first_driven, alone, reads, answers, writes, nothing, next as behind}
use Rattle.fk_drive.specs.KernelSteps.{ActsAlone, mounts, begins, is_signalled, ticks, drops_name, evicts, aborts, gives_answer}
use Rattle.driven_sessions.proofs.Numbers.{Entry}

abbrev IsWithin : Kernel → Type 0
IsWithin k = k.queues.next ≤ 2 ^ 62

taken_within : (k : Kernel) → is_kernel_past_end k ≡ false → IsWithin k
taken_within k within = (within_ends k.queues.next k.vfs.next_call within).0

-- What counters would refuse, and do not, keeps within them.
within : (k : Kernel) → refusal_in (within_counters k) ≡ None → IsWithin k
within k may = (within_ends k.queues.next k.vfs.next_call (by (is_kernel_past_end k) may)).0
  where
    by : (b : Bool) → refusal_in (unless b Exhausted accepted) ≡ None → b ≡ false
    by true may = cc may
    by false may = refl

abbrev Refused : Type 0
Refused = Result (Unit {0}) Refusal

-- A refusal behind a condition is none where it comes to none.
behind_condition : (b : Bool) (r : Refusal) (x : Refused) → refusal_in (unless b r x) ≡ None → refusal_in x ≡ None
behind_condition true r x may = cc may
behind_condition false r x may = may

begun_within : (k : Kernel) (call : Call) → begin_refusal k call ≡ None → IsWithin (call_begun k (for_minor k.lists_files call))
begun_within k call may =
    let next = call_begun k (for_minor k.lists_files call) in
    within next (behind_condition (nat_le max_calls (length k.vfs.calls)) Full (within_counters next)
    (behind_condition (not (is_ready k.phase)) NotReady _ may))

signalled_within : (k : Kernel) (call : ℕ) (fatal : Bool) (state : CallState Opened) → signal_refusal k call fatal ≡ None
    → get k.vfs.calls call ≡ Some state → IsWithin (call_signalled k call state fatal).1
signalled_within k call fatal state may there =
    within (call_signalled k call state fatal).1
    (subst (λ (o : Option (CallState Opened)). refusal_in (found o (λ s. within_counters (call_signalled k call s fatal).1)) ≡ None)
    there (behind_condition (not (is_live k.phase)) NotReady _ may))

-- ---- what is read

reading_next : (q : QueueState Purpose) (u : ℕ) (m : Mark) → (after_reading q u m).next ≡ q.next
reading_next q u mark.Unread = refl
reading_next q u mark.Flagged = refl
reading_next q u mark.Read = refl
reading_next q u mark.Interrupted = refl

picked_within : (k : Kernel) (pick : Pick) → pick_refusal k pick ≡ None → IsWithin k
    → IsWithin (record k { queues = after_pick k.queues pick })
picked_within k Interrupt may was = was
picked_within k (Forgets count) may was =
    by (forgets_read k count) (behind_condition (not (nat_eq (length k.queues.interrupts) 0)) InterruptFirst _
    (behind_condition (not (is_live k.phase)) NotReady _ may))
  where
    after : Kernel
    after = record k { queues = after_read_forgets k.queues count }

    by : (o : Option (ℕ × List Forget)) → refusal_in (found o (λ read. within_counters after)) ≡ None → IsWithin after
    by None may = cc may
    by (Some read) may = within after may
picked_within k (Pending place) may was = by (slice_get (pending k.queues) place)
  where
    by : (o : Option Entry) → (option_map_or (λ (e : Entry). after_reading k.queues e.0 e.1.mark) o k.queues).next ≤ 2 ^ 62
    by None = was
    by (Some e) = let same = reading_next k.queues e.0 e.1.mark in omega (arith, same, was)

-- ---- a run

alone_within : (old new : Kernel) → ActsAlone old new → IsWithin old → IsWithin new
alone_within old new (mounts may) was = omega arith
alone_within old new (begins call may) was = begun_within old call may
alone_within old new (is_signalled call fatal effect q may is) was =
    subst (λ (r : IntrEffect × Kernel). IsWithin r.1) is.signalled (signalled_within old call fatal is.state may is.unanswered)
alone_within old new (ticks ms may) was = was
alone_within old new (drops_name directory name may) was = was
alone_within old new (evicts node counted may there) was = was
alone_within old new (aborts may) was = omega arith
alone_within old new (gives_answer call) was = was

step_within : (old : Driven) (log : List Transfer) (new : Driven) → DriveStep old log new → IsWithin old.kernel
    → IsWithin new.kernel
step_within old log new (alone k acts) was = alone_within old.kernel k acts was
step_within old log new (reads idle pick may request is) was = picked_within old.kernel pick may was
step_within old log new (answers request error turn bytes written result k taken) was = taken_within k taken.within
step_within old log new (writes idles frame rest there handed on result k taken log' coming left turn release) was =
    taken_within k taken.within
step_within old log new step was = was

pub run_within : (asks : Bool) (log : List Transfer) (new : Driven) → Drives (first_driven asks) log new
    → new.kernel.queues.next ≤ 2 ^ 62
run_within asks log new nothing = omega arith
run_within asks log new (behind before mid run last end step) = step_within mid last end step (run_within asks before mid run)
