-- How often a number stands among the pending requests, as the kernel moves them.
use Rattle.std.proofs.Common.{◌≡◌, ℕ, ◌+◌, ◌≤◌, ◌<◌, Bool, true, false, true≢false, ◌&&◌, cond, List, [], ◌∷◌, filter, Some, nat_eq, count_by, option_map, refl, ap, sym, subst, ◌∙◌, arith}
use Rattle.std.specs.Map.{lookup}
use Rattle.fuse_spec.specs.declared.Mark.{Mark}
use Rattle.fuse_spec.specs.declared.Mark.TheVariants.{Unread}
use Rattle.fuse_spec.specs.declared.Purpose.{Purpose}
use Rattle.fuse_spec.specs.declared.QueuedRequest.{QueuedRequest}
use Rattle.fuse_spec.specs.Kernel.Queues.{QueueState, IsSound, is_unread, pending, request_under}
use Rattle.fuse_spec.specs.Kernel.QueueCalls.{after_enqueue, set_mark}
use Rattle.fuse_spec.proofs.QueueCounts.{key_count, count_by-cons, count_by-push}
use Rattle.fuse_spec.proofs.QueueReadings.{key_count-le-one}
use Rattle.fuse_theorem.proofs.Calls.Finding.{other_is, count_less}
use Rattle.fuse_theorem.proofs.Requests.QueueMoves.{QueueMoves, stays, queues, ends, marks, moves_on}

abbrev pub pending_under : ℕ → QueueState Purpose → ℕ
pending_under u q = count_by (λ (e : ℕ × QueuedRequest Purpose). nat_eq u e.0) (pending q)

-- The same, counted among all requests.
abbrev Unread_under : ℕ → ℕ × QueuedRequest Purpose → Bool
Unread_under u e = is_unread e.1.mark && nat_eq u e.0

abbrev one_if : Bool → ℕ
one_if b = cond b 1 0

count_filter : {X : Type 0} (p f : X → Bool) (xs : List X) → count_by p (filter f xs) ≡ count_by (λ x. f x && p x) xs
count_filter p f [] = refl
count_filter p f (x ∷ xs) = by (f x) refl (count_filter p f xs)
  where
    by : (b : Bool) → f x ≡ b → count_by p (filter f xs) ≡ count_by (λ y. f y && p y) xs
        → count_by p (cond b (x ∷ filter f xs) (filter f xs)) ≡ count_by (λ y. f y && p y) (x ∷ xs)
    by true e rest =
        let left = count_by-cons p x (filter f xs) in
        let right : count_by (λ y. f y && p y) (x ∷ xs) ≡ cond (true && p x) 1 0 + count_by (λ y. f y && p y) xs =
        subst (λ (b : Bool). count_by (λ y. f y && p y) (x ∷ xs)
        ≡ cond (b && p x) 1 0 + count_by (λ y. f y && p y) xs) e (count_by-cons (λ y. f y && p y) x xs) in
        omega (arith, left, right, rest)
    by false e rest =
        let right : count_by (λ y. f y && p y) (x ∷ xs) ≡ cond (false && p x) 1 0 + count_by (λ y. f y && p y) xs =
        subst (λ (b : Bool). count_by (λ y. f y && p y) (x ∷ xs)
        ≡ cond (b && p x) 1 0 + count_by (λ y. f y && p y) xs) e (count_by-cons (λ y. f y && p y) x xs) in
        omega (arith, right, rest)

among_all : (u : ℕ) (q : QueueState Purpose) → pending_under u q ≡ count_by (Unread_under u) q.requests
among_all u q = count_filter (λ (e : ℕ × QueuedRequest Purpose). nat_eq u e.0)
    (λ (e : ℕ × QueuedRequest Purpose). is_unread e.1.mark) q.requests

both_le : (a b : Bool) → cond (a && b) 1 0 ≤ cond b 1 0
both_le true b = omega arith
both_le false true = omega arith
both_le false false = omega arith

unread_le : (u : ℕ) (es : List (ℕ × QueuedRequest Purpose)) → count_by (Unread_under u) es ≤ key_count u es
unread_le u [] = omega arith
unread_le u (e ∷ es) =
    let left = count_by-cons (Unread_under u) e es in
    let right = count_by-cons (λ (d : ℕ × QueuedRequest Purpose). nat_eq u d.0) e es in
    let rest = unread_le u es in
    let here = both_le (is_unread e.1.mark) (nat_eq u e.0) in
    omega (arith, left, right, rest, here)

pub pending_le : (u : ℕ) (q : QueueState Purpose) → pending_under u q ≤ key_count u q.requests
pending_le u q =
    let all = among_all u q in
    let le = unread_le u q.requests in
    omega (arith, all, le)

-- An unread request is pending.
pub unread_pending : (u : ℕ) (q : QueueState Purpose) (r : QueuedRequest Purpose) → request_under q u ≡ Some r
    → is_unread r.mark ≡ true → 1 ≤ pending_under u q
unread_pending u q r under unread =
    let all = among_all u q in
    let some = counted q.requests under in
    omega (arith, all, some)
  where
    counted : (es : List (ℕ × QueuedRequest Purpose)) → lookup (nat_eq u) es ≡ Some r → 1 ≤ count_by (Unread_under u) es
    counted [] found = absurd (cc)
    counted (e ∷ es) found = by (nat_eq u e.0) refl found (λ f. counted es f)
      where
        by : (b : Bool) → nat_eq u e.0 ≡ b → cond b (Some e.1) (lookup (nat_eq u) es) ≡ Some r
            → (lookup (nat_eq u) es ≡ Some r → 1 ≤ count_by (Unread_under u) es)
            → 1 ≤ count_by (Unread_under u) (e ∷ es)
        by true tie f rest =
            let is : e.1 ≡ r = cc in
            let both : Unread_under u e ≡ true = (λ i. is_unread (is i).mark && tie i) ∙ ap
            (λ (b : Bool). b && true) unread in
            let here = ap one_if both in
            let whole = count_by-cons (Unread_under u) e es in
            omega (arith, here, whole)
        by false tie f rest =
            let whole = count_by-cons (Unread_under u) e es in
            let more = rest f in
            omega (arith, whole, more)

-- A number is pending once at most.
pub pending_once : (u : ℕ) (q : QueueState Purpose) → IsSound q → pending_under u q ≤ 1
pending_once u q sound =
    let le = pending_le u q in
    let once = key_count-le-one q u sound in
    omega (arith, le, once)

-- A mark makes no request unread.
marked_fewer : (u v : ℕ) (es : List (ℕ × QueuedRequest Purpose)) (old m : Mark)
    → option_map (λ (r : QueuedRequest Purpose). r.mark) (lookup (nat_eq v) es) ≡ Some old
    → (is_unread m ≡ true → is_unread old ≡ true)
    → count_by (Unread_under u) (set_mark v es m) ≤ count_by (Unread_under u) es
marked_fewer u v [] old m found kept = omega arith
marked_fewer u v (e ∷ es) old m found kept = by (nat_eq v e.0) found (λ f. marked_fewer u v es old m f kept)
  where
    was : count_by (Unread_under u) (e ∷ es) ≡ cond (is_unread e.1.mark && nat_eq u e.0) 1 0 + count_by
        (Unread_under u) es
    was = count_by-cons (Unread_under u) e es

    weaker : (a b c : Bool) → (a ≡ true → b ≡ true) → cond (a && c) 1 0 ≤ cond (b && c) 1 0
    weaker true true c f = omega arith
    weaker true false c f = absurd (true≢false (sym (f refl)))
    weaker false b c f = zero_le (b && c)
      where
        zero_le : (x : Bool) → 0 ≤ cond x 1 0
        zero_le x = omega arith

    by : (b : Bool) → option_map (λ (r : QueuedRequest Purpose). r.mark) (cond b (Some e.1) (lookup (nat_eq v) es))
        ≡ Some old
        → (option_map (λ (r : QueuedRequest Purpose). r.mark) (lookup (nat_eq v) es) ≡ Some old
        → count_by (Unread_under u) (set_mark v es m) ≤ count_by (Unread_under u) es)
        → count_by (Unread_under u) (cond b ((e.0, record { mark = m; kept = e.1.kept }) ∷ es)
        (e ∷ set_mark v es m)) ≤ count_by (Unread_under u) (e ∷ es)
    by true f rest =
        let is : e.1.mark ≡ old = cc in
        let now = count_by-cons (Unread_under u) (e.0, record { mark = m; kept = e.1.kept }) es in
        let here = weaker (is_unread m) (is_unread e.1.mark) (nat_eq u e.0) (λ unread. ap is_unread is ∙ kept unread) in
        omega (arith, was, now, here)
    by false f rest =
        let now = count_by-cons (Unread_under u) e (set_mark v es m) in
        let less = rest f in
        omega (arith, was, now, less)

-- Numbers that were allocated before are pending no more often, and the coming number never falls.
pub record Fewer (q r : QueueState Purpose) : Type 0 where
  pub rises : q.next ≤ r.next
  pub fewer : (u : ℕ) → u < q.next → pending_under u r ≤ pending_under u q

fewer_by : (q r : QueueState Purpose) → r.next ≡ q.next
    → ((u : ℕ) → count_by (Unread_under u) r.requests ≤ count_by (Unread_under u) q.requests) → Fewer q r
fewer_by q r next fewer = record {
  rises = omega (arith, next);
  fewer = λ u low.
      let before = among_all u q in
      let after = among_all u r in
      let le = fewer u in
      omega (arith, before, after, le);
}

pub moves_fewer : (q r : QueueState Purpose) → QueueMoves q r → Fewer q r
moves_fewer q r (stays a b same next) = fewer_by q r next
    (λ u. let e = ap (count_by (Unread_under u)) same in omega (arith, e))
moves_fewer q r (queues a kept) = record {
  rises = omega arith;
  fewer = λ u low.
      let before = among_all u q in
      let after = among_all u (after_enqueue q kept) in
      let pushed = count_by-push (Unread_under u) q.requests (q.next, record { mark = Unread; kept = kept }) in
      let other = other_is u q.next (λ e. absurd (omega (arith, e, low))) in
      let none = ap one_if other in
      omega (arith, before, after, pushed, none);
}
moves_fewer q r (ends a b unique same next) = fewer_by q r next (λ u.
    let e = ap (count_by (Unread_under u)) same in
    let less = count_less (Unread_under u) unique q.requests in
    omega (arith, e, less))
moves_fewer q r (marks a b unique old m found kept same next) = fewer_by q r next (λ u.
    let e = ap (count_by (Unread_under u)) same in
    let less = marked_fewer u unique q.requests old m found kept in
    omega (arith, e, less))
moves_fewer q r (moves_on a b c first rest) =
    let x = moves_fewer q b first in
    let y = moves_fewer b r rest in
    let low = x.rises in
    let more = y.rises in
    record {
      rises = omega (arith, low, more);
      fewer = λ u allocated.
          let once = x.fewer u allocated in
          let twice = y.fewer u (omega (arith, allocated, low)) in
          omega (arith, once, twice);
    }
