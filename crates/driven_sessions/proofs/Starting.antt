-- A kernel that mounted waits until its INIT is read: till then it reads nothing else, and does nothing but end.
use Rattle.std.proofs.Common.{◌≡◌, ℕ, ◌-◌, ◌≤◌, ◌<◌, Bool, true, false, true≢false, cond, not, List, [], ◌∷◌, Option, Some, None, Result, nat_eq, nat_le, nat_lt, length, option_map, slice_get, take, refl, ap, sym, subst, ◌∙◌, arith}
use Rattle.std.specs.Prelude.{◌%◌, ◌&&◌, if◌then◌else◌}
use Rattle.std.specs.Map.{lookup}
use Rattle.std.specs.Option.{option_map_or}
use Rattle.std.proofs.lemmas.Bool.{and_parts, false≢true}
use Rattle.std.proofs.lemmas.Bool.Decides.{nat_tests}
use Rattle.fuse_spec.specs.declared.Purpose.{Purpose}
use Rattle.fuse_spec.specs.declared.QueuedRequest.{QueuedRequest}
use Rattle.fuse_spec.specs.declared.Refusal.{Refusal}
use Rattle.fuse_spec.specs.declared.Refusal.TheVariants.{NotReady}
use Rattle.fuse_spec.specs.declared.WriteResult.{WriteResult}
use Rattle.fuse_spec.specs.Values.Maps.{Map, get}
use Rattle.fuse_spec.specs.Values.Numbers.{max_forgets}
use Rattle.fuse_spec.specs.Kernel.Kernel.{Kernel, forgets_singly, is_live, kernel_mounted}
use Rattle.fuse_spec.specs.Kernel.Messages.{Forget, Request}
use Rattle.fuse_spec.specs.Kernel.QueueCalls.{after_reading, can_read_forgets, waiting}
use Rattle.fuse_spec.specs.Kernel.Queues.{is_unread, pending}
use Rattle.fuse_spec.specs.Kernel.Refusals.{is_ready, refusal_in, unless}
use Rattle.fuse_spec.proofs.QueueCounts.{key_count}
use Rattle.fk_kernel.specs.AwaitedReplies.{Awaited, awaited, awaited_by, awaited_by_interrupt, head_unique, nothing, reply_to}
use Rattle.fk_kernel.specs.Picks.{IsPicked, after_pick}
use Rattle.fk_kernel.specs.declared.read.Pick.{Pick}
use Rattle.fk_kernel.specs.declared.read.Pick.TheVariants.{Interrupt, Forgets, Pending}
use Rattle.fk_drive.specs.KernelSteps.{ActsAlone, IsReplyTaken, mounts, begins, is_signalled, ticks, drops_name, evicts, aborts, gives_answer}
use Rattle.fk_drive_theorem.specs.TakenOnce.{mounts_alone}
use Rattle.fk_drive_theorem.proofs.OneEach.{OneEach}
use Rattle.fk_drive_theorem.proofs.Stable.{at_most, is_empty, same_truth}
use Rattle.fk_drive_theorem.proofs.Taken.{TakenAs, refused_whole, is_read, holds_as_taken}
use Rattle.driven_sessions.proofs.Numbers.{Each, Entry, Passed, each_at, reading_passes}

-- One request is queued, unread and under the first number.
abbrev has_first_alone : List Entry → Bool
has_first_alone (e ∷ []) = nat_eq e.0 2 && is_unread e.1.mark
has_first_alone es = false

-- INIT alone is queued, and nothing is known.
pub record Waits (k : Kernel) : Type 0 where
  unready : is_ready k.phase ≡ false
  calls : k.vfs.calls ≡ []
  nodes : k.nodes ≡ []
  requests : has_first_alone k.queues.requests ≡ true
  interrupts : k.queues.interrupts ≡ []
  forgets : k.queues.forgets ≡ []
  next : 2 < k.queues.next

pub mounted_waits : (k : Kernel) → Waits (kernel_mounted k)
mounted_waits k = record {
  unready = refl;
  calls = refl;
  nodes = refl;
  requests = refl;
  interrupts = refl;
  forgets = refl;
  next = omega arith;
}

-- ---- without its server

pub may_if_ready : (b : Bool) (x : Result (Unit {0}) Refusal) → refusal_in (unless (not b) NotReady x) ≡ None → b ≡ true
may_if_ready true x may = refl
may_if_ready false x may = cc may

pub none_there : {X : Type 0} (m : Map X) (n : ℕ) (x : X) → m ≡ [] → get m n ≡ Some x → ⊥
none_there m n x empty there = cc (empty, there)

-- It waits on, or is not live any more.
pub data WaitsOn (k : Kernel) : Type 0 where
  waits_on : Waits k → WaitsOn k
  is_gone : is_live k.phase ≡ false → WaitsOn k

pub alone_waits : (old new : Kernel) (acts : ActsAlone old new) → mounts_alone acts ≡ 0 → Waits old → WaitsOn new
alone_waits old new (mounts may) none w = absurd (omega (arith, none))
alone_waits old new (begins call may) none w =
    absurd (true≢false (sym (may_if_ready (is_ready old.phase) _ may) ∙ w.unready))
alone_waits old new (is_signalled call fatal effect q may is) none w =
    absurd (none_there old.vfs.calls call is.state w.calls is.unanswered)
alone_waits old new (ticks ms may) none w = waits_on (record {
  unready = w.unready;
  calls = w.calls;
  nodes = w.nodes;
  requests = w.requests;
  interrupts = w.interrupts;
  forgets = w.forgets;
  next = w.next;
})
alone_waits old new (drops_name directory name may) none w = waits_on (record {
  unready = w.unready;
  calls = w.calls;
  nodes = w.nodes;
  requests = w.requests;
  interrupts = w.interrupts;
  forgets = w.forgets;
  next = w.next;
})
alone_waits old new (evicts node counted may there) none w = absurd (none_there old.nodes node counted w.nodes there)
alone_waits old new (aborts may) none w = is_gone refl
alone_waits old new (gives_answer call) none w = waits_on (record {
  unready = w.unready;
  calls = w.calls;
  nodes = w.nodes;
  requests = w.requests;
  interrupts = w.interrupts;
  forgets = w.forgets;
  next = w.next;
})

-- ---- a reply

none_waiting : (es : List Entry) → has_first_alone es ≡ true → (u : ℕ)
    → option_map_or (λ (r : QueuedRequest Purpose). if is_unread r.mark then None else Some r.kept) (lookup (nat_eq u) es) None
    ≡ None
none_waiting [] first u = absurd (false≢true first)
none_waiting (e ∷ []) first u = by (nat_eq u e.0)
  where
    told : (c : Bool) → c ≡ true → cond {A = Option Purpose} c None (Some e.1.kept) ≡ None
    told true is = refl
    told false is = absurd (false≢true is)

    by : (b : Bool) → option_map_or (λ (r : QueuedRequest Purpose). if is_unread r.mark then None else Some r.kept)
        (cond b (Some e.1) None) None ≡ None
    by true = told (is_unread e.1.mark) (and_parts (nat_eq e.0 2) (is_unread e.1.mark) first).1
    by false = refl
none_waiting (e ∷ f ∷ es) first u = absurd (false≢true first)

nothing_awaited : (k : Kernel) → Waits k → (u : ℕ) → awaited k u ≡ nothing
nothing_awaited k w u = by (nat_eq (u % 2) 1)
  where
    none : (n : ℕ) → waiting k.queues n ≡ None
    none = none_waiting k.queues.requests w.requests

    by : (b : Bool) → cond b (awaited_by_interrupt (waiting k.queues (u - 1))) (awaited_by k (waiting k.queues u)) ≡ nothing
    by true = ap awaited_by_interrupt (none (u - 1))
    by false = ap (awaited_by k) (none u)

abbrev is_something : Awaited → Bool
is_something nothing = false
is_something (reply_to o) = true

pub taken_waits : (old : Kernel) (bytes : List ℕ) (result : WriteResult) (new : Kernel) → IsReplyTaken old bytes result new
    → Waits old → Waits new
taken_waits old bytes result new taken w = record {
  unready = holds_as_taken old bytes result new taken (is_ready new.phase ≡ false) (same_truth _ _) (λ t. (by t).unready);
  calls = holds_as_taken old bytes result new taken (new.vfs.calls ≡ []) (is_empty _) (λ t. (by t).calls);
  nodes = holds_as_taken old bytes result new taken (new.nodes ≡ []) (is_empty _) (λ t. (by t).nodes);
  requests = holds_as_taken old bytes result new taken (has_first_alone new.queues.requests ≡ true) (same_truth _ _)
      (λ t. (by t).requests);
  interrupts = holds_as_taken old bytes result new taken (new.queues.interrupts ≡ []) (is_empty _) (λ t. (by t).interrupts);
  forgets = holds_as_taken old bytes result new taken (new.queues.forgets ≡ []) (is_empty _) (λ t. (by t).forgets);
  next = holds_as_taken old bytes result new taken (2 < new.queues.next) (at_most _ _) (λ t. (by t).next);
}
  where
    by : TakenAs old bytes result new → Waits new
    by (refused_whole refused no_entry same) = subst Waits (sym same) w
    by (is_read o wire awaits means same) =
        absurd (true≢false (sym (ap is_something awaits) ∙ ap is_something (nothing_awaited old w (head_unique bytes))))

-- ---- INIT is read

first_each : (es : List Entry) → has_first_alone es ≡ true → Each (λ (e : Entry). e.0 ≡ 2) es
first_each [] first = tt
first_each (e ∷ []) first =
    let is = (and_parts (nat_eq e.0 2) (is_unread e.1.mark) first).0 in (grind (arith, nat_tests, is), tt)
first_each (e ∷ f ∷ es) first = absurd (false≢true first)

no_forgets : (k : Kernel) (count : ℕ) → k.queues.forgets ≡ [] → can_read_forgets k.queues count ≡ false
no_forgets k count none = ap (λ (l : List Forget). nat_lt 0 count && (nat_le count max_forgets && nat_le count (length l))) none
    ∙ by (nat_lt 0 count) (nat_le count max_forgets) (nat_le count 0) refl refl
  where
    by : (a b c : Bool) → nat_lt 0 count ≡ a → nat_le count 0 ≡ c → (a && (b && c)) ≡ false
    by false b c some none = refl
    by true false c some none = refl
    by true true false some none = refl
    by true true true some none = grind (arith, nat_tests, some, none)

pub unread_forgets : (k : Kernel) (count : ℕ) (r : Request) → IsPicked k (Forgets count) r → k.queues.forgets ≡ [] → ⊥
unread_forgets k count r is none =
    by (forgets_singly k.minor && nat_lt 1 count) (can_read_forgets k.queues count) (no_forgets k count none) is.first
  where
    by : (c b : Bool) → b ≡ false → ◌≡◌ {A = Option (ℕ × List Forget)}
        (cond {A = Option (ℕ × List Forget)} c None (cond {A = Option (ℕ × List Forget)} b
        (Some (k.queues.next, take count k.queues.forgets)) None)) (Some (r.unique, is.forgets)) → ⊥
    by true b none e = cc e
    by false true none e = false≢true (sym none)
    by false false none e = cc e

pub read_waits : (k : Kernel) (pick : Pick) (r : Request) → OneEach k.queues → IsPicked k pick r → Waits k
    → Passed 2 (after_pick k.queues pick)
read_waits k Interrupt r one is w = cc (w.interrupts, is.first)
read_waits k (Forgets count) r one is w = absurd (unread_forgets k count r is w.forgets)
read_waits k (Pending place) r one is w = by (slice_get (pending k.queues) place) refl is.pending
  where
    once : (n : ℕ) (b : Bool) → n ≤ cond b 1 0 → n ≤ 1
    once n true le = le
    once n false le = omega (arith, le)

    by : (o : Option Entry) → slice_get (pending k.queues) place ≡ o
        → option_map {U = ℕ × Purpose} (λ (e : Entry). (e.0, e.1.kept)) o ≡ Some (r.unique, is.purpose)
        → Passed 2 (option_map_or (λ (e : Entry). after_reading k.queues e.0 e.1.mark) o k.queues)
    by None at found = cc found
    by (Some e) at found =
        let known = each_at (λ x. x.0 ≡ 2) (λ x. is_unread x.1.mark) k.queues.requests place e
        (first_each k.queues.requests w.requests) at in
        let first : e.0 ≡ 2 = known.1 in
        let next = w.next in
        subst (λ (n : ℕ). Passed n (after_reading k.queues e.0 e.1.mark)) first
        (reading_passes k.queues e.0 e.1.mark (omega (arith, first, next))
        (once (key_count e.0 k.queues.requests) (nat_lt e.0 k.queues.next) (one e.0)) known.0)
