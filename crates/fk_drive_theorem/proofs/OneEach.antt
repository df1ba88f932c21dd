-- A number has one request at most, and none before it is allocated, in any run from before the first mount.
use Rattle.std.proofs.Common.{◌≡◌, ℕ, ◌+◌, ◌≤◌, Bool, true, false, cond, List, [], ◌∷◌, Option, Some, None, drop, nat_eq, slice_get, refl, ap, sym, subst, ◌∙◌, arith}
use Rattle.std.specs.Prelude.{nat_lt}
use Rattle.std.specs.Map.{lookup, remove_entry}
use Rattle.std.specs.Option.{option_map_or}
use Rattle.std.proofs.lemmas.Bool.Decides.{nat_tests}
use Rattle.fuse_spec.specs.declared.IntrEffect.{IntrEffect}
use Rattle.fuse_spec.specs.declared.Mark.{Mark}
use Rattle.fuse_spec.specs.declared.Mark.TheVariants as mark
use Rattle.fuse_spec.specs.declared.Purpose.{Purpose}
use Rattle.fuse_spec.specs.declared.Purpose.TheVariants.{Init}
use Rattle.fuse_spec.specs.declared.QueuedRequest.{QueuedRequest}
use Rattle.fuse_spec.specs.declared.WriteResult.{WriteResult}
use Rattle.fuse_spec.specs.Calls.Calls.{for_minor}
use Rattle.fuse_spec.specs.Kernel.Kernel.{Kernel, call_begun, call_signalled, is_live}
use Rattle.fuse_spec.specs.Kernel.QueueCalls.{after_reading, can_read_forgets, set_mark, without}
use Rattle.fuse_spec.specs.Kernel.Queues.{QueueState, empty_queues, pending}
use Rattle.fuse_spec.specs.Kernel.Replies.{reply_written}
use Rattle.fuse_spec.proofs.QueueCounts.{count_by-cons, count_by-push, key_count, key_count-remove_entry, key_count-set_mark, lookup-no_key}
use Rattle.fuse_theorem.proofs.Requests.QueueMoves.{MovesBy, stays, queues, ends, marks, moves_on, begun_reads_none, signalled_reads_none, written_reads_none}
use Rattle.fuse_device.specs.Transfers.{Transfer}
use Rattle.fk_kernel.specs.AwaitedReplies.{head_unique}
use Rattle.fk_kernel.specs.Picks.{after_pick}
use Rattle.fk_kernel.specs.declared.read.Pick.{Pick}
use Rattle.fk_kernel.specs.declared.read.Pick.TheVariants.{Interrupt, Forgets, Pending}
use Rattle.fk_drive.specs.Driving.{Driven, DriveStep, Drives, first_driven, alone, reads, answers, writes, nothing, next}
use Rattle.fk_drive.specs.KernelSteps.{ActsAlone, IsReplyTaken, mounts, begins, is_signalled, ticks, drops_name, evicts, aborts, gives_answer}
use Rattle.fk_drive_theorem.proofs.Stable.{Stable, at_most}
use Rattle.fk_drive_theorem.proofs.Taken.{TakenAs, refused_whole, is_read, holds_as_taken}
use Rattle.fk_drive_theorem.proofs.RunsTally.{run_tallied}
use Rattle.fk_drive_theorem.proofs.WrittenCounted.{EmptyUnlessLive, written_empty}

abbrev Requests : Type 0
Requests = List (ℕ × QueuedRequest Purpose)

-- A number has one request at most, and none before it is allocated.
abbrev pub OneEach : QueueState Purpose → Type 0
OneEach q = (u : ℕ) → key_count u q.requests ≤ cond (nat_lt u q.next) 1 0

one_stable : (q : QueueState Purpose) → Stable (OneEach q)
one_stable q s u = at_most (key_count u q.requests) (cond (nat_lt u q.next) 1 0) (λ no. s (λ one. no (one u)))

-- ---- the queues alone

removed_none : (u : ℕ) (es : Requests) → key_count u es ≤ 1 → lookup (nat_eq u) (remove_entry (nat_eq u) es) ≡ None
removed_none u [] once = refl
removed_none u (e ∷ es) once = by (nat_eq u e.0) refl (removed_none u es)
  where
    by : (b : Bool) → nat_eq u e.0 ≡ b → (key_count u es ≤ 1 → lookup (nat_eq u) (remove_entry (nat_eq u) es) ≡ None)
        → lookup (nat_eq u) (cond b es (e ∷ remove_entry (nat_eq u) es)) ≡ None
    by true is rest =
        let counted = count_by-cons (λ (d : ℕ × QueuedRequest Purpose). nat_eq u d.0) e es in
        lookup-no_key u es (grind (arith, counted, once, is))
    by false is rest =
        let counted = count_by-cons (λ (d : ℕ × QueuedRequest Purpose). nat_eq u d.0) e es in
        ap (λ (b : Bool). cond b (Some e.1) (lookup (nat_eq u) (remove_entry (nat_eq u) es))) is
        ∙ rest (grind (arith, counted, once, is))

-- Once the request of a number ends, the number has none.
pub one_removed : (u : ℕ) (q : QueueState Purpose) → OneEach q → lookup (nat_eq u) (without q u).requests ≡ None
one_removed u q one = removed_none u q.requests (by (nat_lt u q.next) (one u))
  where
    by : (b : Bool) → key_count u q.requests ≤ cond b 1 0 → key_count u q.requests ≤ 1
    by true few = few
    by false few = omega (arith, few)

empty_one : (q : QueueState Purpose) → q.requests ≡ [] → OneEach q
empty_one q empty u =
    let none : key_count u q.requests ≡ 0 = ap (λ (es : Requests). key_count u es) empty in
    omega (arith, none)

same_one : (q r : QueueState Purpose) → r.requests ≡ q.requests → q.next ≤ r.next → OneEach q → OneEach r
same_one q r same later one u =
    let counts : key_count u r.requests ≡ key_count u q.requests = ap (λ (es : Requests). key_count u es) same in
    let was = one u in
    grind (arith, nat_tests, counts, was, later)

moves_one : (May : Mark → Mark → Type 0) (q r : QueueState Purpose) → MovesBy May q r → OneEach q → OneEach r
moves_one May q r (stays a b same coming) one = same_one q r same (omega (arith, coming)) one
moves_one May q r (queues a kept) one = λ u.
    let was = one u in
    let pushed = count_by-push (λ (e : ℕ × QueuedRequest Purpose). nat_eq u e.0) q.requests
    (q.next, record { mark = mark.Unread; kept = kept }) in
    grind (arith, nat_tests, was, pushed)
moves_one May q r (ends a b v same coming) one = λ u.
    let was = one u in
    let counts : key_count u r.requests ≡ key_count u (remove_entry (nat_eq v) q.requests) =
    ap (λ (es : Requests). key_count u es) same in
    let fewer = key_count-remove_entry u (nat_eq v) q.requests in
    grind (arith, nat_tests, was, counts, fewer, coming)
moves_one May q r (marks a b v old m found may same coming) one = λ u.
    let was = one u in
    let counts : key_count u r.requests ≡ key_count u (set_mark v q.requests m) =
    ap (λ (es : Requests). key_count u es) same in
    let as_many = key_count-set_mark u v q.requests m in
    grind (arith, nat_tests, was, counts, as_many, coming)
moves_one May q r (moves_on a b c first rest) one = moves_one May b r rest (moves_one May q b first one)

-- ---- steps

taken_one : (old : Kernel) (bytes : List ℕ) (result : WriteResult) (new : Kernel) → IsReplyTaken old bytes result new
    → EmptyUnlessLive old → OneEach old.queues → OneEach new.queues
taken_one old bytes result new taken empty one =
    holds_as_taken old bytes result new taken (OneEach new.queues) (one_stable new.queues) by
  where
    to : (k : Kernel) → new ≡ k → OneEach k.queues → OneEach new.queues
    to k same is = subst (λ (l : Kernel). OneEach l.queues) (sym same) is

    by : TakenAs old bytes result new → OneEach new.queues
    by (refused_whole refused no_entry same) = to old same one
    by (is_read o wire is means same) =
        let after = (reply_written old (head_unique bytes) wire).1 in
        to after (sym (ap (λ (r : WriteResult × Kernel). r.1) same)) (live_or after (is_live after.phase) refl
        (λ live. moves_one _ old.queues after.queues (written_reads_none old (head_unique bytes) wire live) one)
        (written_empty old (head_unique bytes) wire empty))
      where
        live_or : (k : Kernel) (b : Bool) → is_live k.phase ≡ b → (is_live k.phase ≡ true → OneEach k.queues)
            → EmptyUnlessLive k → OneEach k.queues
        live_or k true live alive dead = alive live
        live_or k false live alive dead = empty_one k.queues (dead live).1

picked_one : (q : QueueState Purpose) (pick : Pick) → OneEach q → OneEach (after_pick q pick)
picked_one q Interrupt one = same_one q (record q { interrupts = drop 1 q.interrupts }) refl (omega arith) one
picked_one q (Forgets count) one = by (can_read_forgets q count)
  where
    by : (b : Bool) → OneEach (cond b (record q { forgets = drop count q.forgets; next = q.next + 2 }) q)
    by true = same_one q (record q { forgets = drop count q.forgets; next = q.next + 2 }) refl (omega arith) one
    by false = one
picked_one q (Pending place) one = by (slice_get (pending q) place)
  where
    marked : (v : ℕ) (m : Mark) → OneEach (record q { requests = set_mark v q.requests m })
    marked v m u = let was = one u in let as_many = key_count-set_mark u v q.requests m in omega (arith, was, as_many)

    read_as : (v : ℕ) (m : Mark) → OneEach (after_reading q v m)
    read_as v mark.Unread = marked v mark.Read
    read_as v mark.Flagged = marked v mark.Interrupted
    read_as v mark.Read = one
    read_as v mark.Interrupted = one

    by : (o : Option (ℕ × QueuedRequest Purpose)) → OneEach (option_map_or (λ e. after_reading q e.0 e.1.mark) o q)
    by None = one
    by (Some e) = read_as e.0 e.1.mark

alone_one : (old new : Kernel) → ActsAlone old new → OneEach old.queues → OneEach new.queues
alone_one old new (mounts may) one = moves_one (λ old m. Unit {0}) empty_queues _ (queues empty_queues Init)
    (empty_one empty_queues refl)
alone_one old new (begins call may) one =
    let c = for_minor old.lists_files call in
    moves_one _ old.queues (call_begun old c).queues (begun_reads_none old c) one
alone_one old new (is_signalled call fatal effect q may is) one =
    subst (λ (r : IntrEffect × Kernel). OneEach r.1.queues) is.signalled
    (moves_one _ old.queues (call_signalled old call is.state fatal).1.queues
    (signalled_reads_none old call is.state fatal) one)
alone_one old new (ticks ms may) one = one
alone_one old new (drops_name directory name may) one = one
alone_one old new (evicts node counted may there) one = one
alone_one old new (aborts may) one = empty_one empty_queues refl
alone_one old new (gives_answer call) one = one

step_one : (old : Driven) (log : List Transfer) (new : Driven) → DriveStep old log new → EmptyUnlessLive old.kernel
    → OneEach old.kernel.queues → OneEach new.kernel.queues
step_one old log new (alone k acts) empty one = alone_one old.kernel k acts one
step_one old log new (reads idle pick may request is) empty one = picked_one old.kernel.queues pick one
step_one old log new (answers request error turn bytes written result k taken) empty one =
    taken_one old.kernel bytes result k taken empty one
step_one old log new (writes idles frame rest there handed on result k taken went next_own left turn behind) empty one =
    taken_one old.kernel handed result k taken empty one
step_one old log new step empty one = one

pub run_one : (asks : Bool) (log : List Transfer) (new : Driven) → Drives (first_driven asks) log new
    → OneEach new.kernel.queues
run_one asks log new nothing = empty_one empty_queues refl
run_one asks log new (next before mid run last end step) =
    step_one mid last end step (run_tallied 2 (omega arith) asks before mid run).empty (run_one asks before mid run)
