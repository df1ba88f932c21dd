-- The numbers of the kernel's requests while its mount is live: even, below the coming one, and none unread twice.
use Rattle.std.proofs.Common.{◌≡◌, ℕ, ◌+◌, ◌≤◌, ◌<◌, ◌%◌, Bool, true, false, true≢false, cond, filter, List, [], ◌∷◌, ◌++◌, Option, Some, None, nat_eq, slice_get, option_map, zero, suc, refl, ap, sym, subst, ◌∙◌, arith}
use Rattle.std.specs.Map.{lookup, remove_entry}
use Rattle.std.proofs.lemmas.Bool.{false≢true}
use Rattle.std.proofs.lemmas.Bool.Decides.{nat_tests}
use Rattle.fuse_spec.specs.declared.Mark.{Mark}
use Rattle.fuse_spec.specs.declared.Mark.TheVariants as mark
use Rattle.fuse_spec.specs.declared.Purpose.{Purpose}
use Rattle.fuse_spec.specs.declared.QueuedRequest.{QueuedRequest}
use Rattle.fuse_spec.specs.Kernel.Queues.{QueueState, is_unread}
use Rattle.fuse_spec.specs.Kernel.QueueCalls.{after_reading, set_mark}
use Rattle.fuse_spec.proofs.QueueCounts.{count_by-cons, key_count}
use Rattle.fuse_theorem.proofs.Requests.QueueMoves.{ReadsNone, stays, queues, ends, marks, moves_on}
use Rattle.fk_drive_theorem.proofs.Stable.{Stable, at_most, same_number, same_truth}

abbrev pub Entry : Type 0
Entry = ℕ × QueuedRequest Purpose

-- Each of these is such.
abbrev pub Each : (Entry → Type 0) → List Entry → Type 0
Each P [] = Unit {0}
Each P (e ∷ es) = P e × Each P es

module _ (P : Entry → Type 0) where
  pub each_push : (es : List Entry) (e : Entry) → Each P es → P e → Each P (es ++ e ∷ [])
  each_push [] e all is = (is, tt)
  each_push (x ∷ es) e all is = (all.0, each_push es e all.1 is)

  pub each_removed : (test : ℕ → Bool) (es : List Entry) → Each P es → Each P (remove_entry test es)
  each_removed test [] all = tt
  each_removed test (e ∷ es) all = by (test e.0) (each_removed test es all.1)
    where
      by : (b : Bool) → Each P (remove_entry test es) → Each P (cond b es (e ∷ remove_entry test es))
      by true rest = all.1
      by false rest = (all.0, rest)

  pub each_stable : ((e : Entry) → Stable (P e)) → (es : List Entry) → Stable (Each P es)
  each_stable one [] s = tt
  each_stable one (e ∷ es) s =
      (one e (λ no. s (λ all. no all.0)), each_stable one es (λ no. s (λ all. no all.1)))

  abbrev Rest : (Entry → Bool) → List Entry → Entry → Type 0
  Rest test es e = (n : ℕ) → slice_get (filter test es) n ≡ Some e → (test e ≡ true) × P e

  -- What is picked among those that pass a test passes it, and is such.
  pub each_at : (test : Entry → Bool) (es : List Entry) (place : ℕ) (e : Entry) → Each P es
      → slice_get (filter test es) place ≡ Some e → (test e ≡ true) × P e
  each_at test [] place e all at = absurd (cc at)
  each_at test (x ∷ es) place e all at = by (test x) refl at (λ n. each_at test es n e all.1)
    where
      first : (place : ℕ) → test x ≡ true → slice_get (x ∷ filter test es) place ≡ Some e → Rest test es e → (test e ≡ true) × P e
      first zero is at rest =
          let same : x ≡ e = some x e at in
          (subst (λ (y : Entry). test y ≡ true) same is, subst P same all.0)
        where
          some : (a b : Entry) → ◌≡◌ {A = Option Entry} (Some a) (Some b) → a ≡ b
          some a b e = ap of e
            where
              of : Option Entry → Entry
              of None = a
              of (Some y) = y
      first (suc place) is at rest = rest place at

      by : (b : Bool) → test x ≡ b → slice_get (cond b (x ∷ filter test es) (filter test es)) place ≡ Some e
          → Rest test es e → (test e ≡ true) × P e
      by true is at rest = first place is at rest
      by false is at rest = rest place at

-- ---- a request is marked

-- `u` is that of a request that was read: none under it is unread.
abbrev pub IsRead : ℕ → Entry → Type 0
IsRead u e = nat_eq u e.0 ≡ true → is_unread e.1.mark ≡ false

module _ (P : Entry → Type 0) (marked : (e : Entry) (m : Mark) → P e → (is_unread m ≡ true → is_unread e.1.mark ≡ true)
    → P (e.0, record { mark = m; kept = e.1.kept })) where
  each_marked : (v : ℕ) (old m : Mark) (es : List Entry)
      → option_map (λ (r : QueuedRequest Purpose). r.mark) (lookup (nat_eq v) es) ≡ Some old
      → (is_unread m ≡ true → is_unread old ≡ true) → Each P es → Each P (set_mark v es m)
  each_marked v old m [] found may all = tt
  each_marked v old m (e ∷ es) found may all = by (nat_eq v e.0) found (λ there. each_marked v old m es there may all.1)
    where
      some : (a b : Mark) → ◌≡◌ {A = Option Mark} (Some a) (Some b) → a ≡ b
      some a b e = ap of e
        where
          of : Option Mark → Mark
          of None = a
          of (Some y) = y

      by : (b : Bool) → option_map (λ (r : QueuedRequest Purpose). r.mark) (cond b (Some e.1) (lookup (nat_eq v) es)) ≡ Some old
          → (option_map (λ (r : QueuedRequest Purpose). r.mark) (lookup (nat_eq v) es) ≡ Some old → Each P (set_mark v es m))
          → Each P (cond b ((e.0, record { mark = m; kept = e.1.kept }) ∷ es) (e ∷ set_mark v es m))
      by true found rest =
          let same : e.1.mark ≡ old = some e.1.mark old found in
          (marked e m all.0 (λ unread. ap is_unread same ∙ may unread), all.1)
      by false found rest = (all.0, rest found)

-- What asks nothing of marks stays so.
module _ (P : Entry → Type 0) (marked : (e : Entry) (m : Mark) → P e → P (e.0, record { mark = m; kept = e.1.kept })) where
  pub each_remarked : (u : ℕ) (m : Mark) (es : List Entry) → Each P es → Each P (set_mark u es m)
  each_remarked u m [] all = tt
  each_remarked u m (e ∷ es) all = by (nat_eq u e.0) (each_remarked u m es all.1)
    where
      by : (b : Bool) → Each P (set_mark u es m)
          → Each P (cond b ((e.0, record { mark = m; kept = e.1.kept }) ∷ es) (e ∷ set_mark u es m))
      by true rest = (marked e m all.0, all.1)
      by false rest = (all.0, rest)

-- ---- what is true of the queues

-- Each number is even and below the coming one, which is even.
pub record Numbered (q : QueueState Purpose) : Type 0 where
  pub next : q.next % 2 ≡ 0
  pub requests : Each (λ e. (e.0 % 2 ≡ 0) × (e.0 < q.next)) q.requests

-- A number was read: it was allocated, and no request under it is unread.
pub record Passed (u : ℕ) (q : QueueState Purpose) : Type 0 where
  pub low : u < q.next
  pub read : Each (IsRead u) q.requests

pub numbered_stable : (q : QueueState Purpose) → Stable (Numbered q)
numbered_stable q s = record {
  next = same_number _ _ (λ no. s (λ n. no n.next));
  requests = each_stable (λ e. (e.0 % 2 ≡ 0) × (e.0 < q.next))
      (λ e t. (same_number _ _ (λ no. t (λ p. no p.0)), at_most _ _ (λ no. t (λ p. no p.1)))) q.requests
      (λ no. s (λ n. no n.requests));
}

pub passed_stable : (u : ℕ) (q : QueueState Purpose) → Stable (Passed u q)
passed_stable u q s = record {
  low = at_most _ _ (λ no. s (λ p. no p.low));
  read = each_stable (IsRead u) (λ e t is. same_truth _ _ (λ no. t (λ p. no (p is)))) q.requests
      (λ no. s (λ p. no p.read));
}

each_higher : (n m : ℕ) → n ≤ m → (es : List Entry) → Each (λ e. (e.0 % 2 ≡ 0) × (e.0 < n)) es
    → Each (λ e. (e.0 % 2 ≡ 0) × (e.0 < m)) es
each_higher n m le [] all = tt
each_higher n m le (e ∷ es) all = let low = all.0.1 in ((all.0.0, omega (arith, low, le)), each_higher n m le es all.1)

-- The same requests, and a coming number that is even and no lower.
pub numbered_later : (q r : QueueState Purpose) → r.requests ≡ q.requests → q.next ≤ r.next → r.next % 2 ≡ 0 → Numbered q
    → Numbered r
numbered_later q r same later even n = record {
  next = even;
  requests = subst (Each (λ e. (e.0 % 2 ≡ 0) × (e.0 < r.next))) (sym same)
      (each_higher q.next r.next later q.requests n.requests);
}

pub passed_later : (u : ℕ) (q r : QueueState Purpose) → r.requests ≡ q.requests → q.next ≤ r.next → Passed u q → Passed u r
passed_later u q r same later p = let low = p.low in record {
  low = omega (arith, low, later);
  read = subst (Each (IsRead u)) (sym same) p.read;
}

numbered_same : (q r : QueueState Purpose) (es : List Entry) → r.requests ≡ es → r.next ≡ q.next
    → Each (λ e. (e.0 % 2 ≡ 0) × (e.0 < q.next)) es → Numbered q → Numbered r
numbered_same q r es same next all n = record {
  next = ap (λ (m : ℕ). m % 2) next ∙ n.next;
  requests = subst (λ (m : ℕ). Each (λ e. (e.0 % 2 ≡ 0) × (e.0 < m)) r.requests) (sym next)
      (subst (Each (λ e. (e.0 % 2 ≡ 0) × (e.0 < q.next))) (sym same) all);
}

pub moves_numbered : (q r : QueueState Purpose) → ReadsNone q r → Numbered q → Numbered r
moves_numbered q r (stays a b same next) n = numbered_same q r q.requests same next n.requests n
moves_numbered q r (queues a kept) n =
    let even = n.next in
    record {
      next = omega (arith, even);
      requests = each_push (λ e. (e.0 % 2 ≡ 0) × (e.0 < q.next + 2)) q.requests
          (q.next, record { mark = mark.Unread; kept = kept })
          (each_higher q.next (q.next + 2) (omega arith) q.requests n.requests) (even, omega arith);
    }
moves_numbered q r (ends a b v same next) n = numbered_same q r (remove_entry (nat_eq v) q.requests) same next
    (each_removed (λ e. (e.0 % 2 ≡ 0) × (e.0 < q.next)) (nat_eq v) q.requests n.requests) n
moves_numbered q r (marks a b v old m found may same next) n = numbered_same q r (set_mark v q.requests m) same next
    (each_marked (λ e. (e.0 % 2 ≡ 0) × (e.0 < q.next)) (λ e m p unread. p) v old m q.requests found
    (λ unread. sym may ∙ unread) n.requests) n
moves_numbered q r (moves_on a b c first rest) n = moves_numbered b r rest (moves_numbered q b first n)

module _ (u : ℕ) where
  passed_same : (q r : QueueState Purpose) (es : List Entry) → r.requests ≡ es → r.next ≡ q.next → Each (IsRead u) es
      → Passed u q → Passed u r
  passed_same q r es same next all p = let low = p.low in record {
    low = omega (arith, low, next);
    read = subst (Each (IsRead u)) (sym same) all;
  }

  read_marked : (e : Entry) (m : Mark) → IsRead u e → (is_unread m ≡ true → is_unread e.1.mark ≡ true)
      → IsRead u (e.0, record { mark = m; kept = e.1.kept })
  read_marked e m p unread is = by (is_unread m) refl
    where
      by : (b : Bool) → is_unread m ≡ b → b ≡ false
      by true e = absurd (true≢false (sym (unread e) ∙ p is))
      by false e = refl

  pub moves_passed : (q r : QueueState Purpose) → ReadsNone q r → Passed u q → Passed u r
  moves_passed q r (stays a b same next) p = passed_same q r q.requests same next p.read p
  moves_passed q r (queues a kept) p =
      let low = p.low in
      let apart : nat_eq u q.next ≡ false = grind (arith, nat_tests, low) in
      record {
        low = omega (arith, low);
        read = each_push (IsRead u) q.requests (q.next, record { mark = mark.Unread; kept = kept }) p.read
            (λ is. absurd (false≢true (sym apart ∙ is)));
      }
  moves_passed q r (ends a b v same next) p = passed_same q r (remove_entry (nat_eq v) q.requests) same next
      (each_removed (IsRead u) (nat_eq v) q.requests p.read) p
  moves_passed q r (marks a b v old m found may same next) p = passed_same q r (set_mark v q.requests m) same next
      (each_marked (IsRead u) read_marked v old m q.requests found (λ unread. sym may ∙ unread) p.read) p
  moves_passed q r (moves_on a b c first rest) p = moves_passed b r rest (moves_passed q b first p)

-- ---- a request is read

-- a mark that is not unread changes no number's being read
set_read : (P : Entry → Type 0) → ((e : Entry) (m : Mark) → is_unread m ≡ false → P e
    → P (e.0, record { mark = m; kept = e.1.kept })) → (v : ℕ) (m : Mark) → is_unread m ≡ false → (es : List Entry)
    → Each P es → Each P (set_mark v es m)
set_read P one v m read [] all = tt
set_read P one v m read (e ∷ es) all = by (nat_eq v e.0) (set_read P one v m read es all.1)
  where
    by : (b : Bool) → Each P (set_mark v es m) → Each P (cond b ((e.0, record { mark = m; kept = e.1.kept }) ∷ es) (e ∷ set_mark v es m))
    by true rest = (one e m read all.0, all.1)
    by false rest = (all.0, rest)

no_key : (u : ℕ) (es : List Entry) → key_count u es ≡ 0 → Each (IsRead u) es
no_key u [] none = tt
no_key u (e ∷ es) none =
    let counted = count_by-cons (λ (d : Entry). nat_eq u d.0) e es in
    by (nat_eq u e.0) refl counted (no_key u es)
  where
    by : (b : Bool) → nat_eq u e.0 ≡ b → key_count u (e ∷ es) ≡ cond b 1 0 + key_count u es
        → (key_count u es ≡ 0 → Each (IsRead u) es) → IsRead u e × Each (IsRead u) es
    by true is counted rest = absurd (omega (arith, none, counted))
    by false is counted rest = (λ e. absurd (false≢true (sym is ∙ e)), rest (omega (arith, none, counted)))

-- Of one request that is read now.
read_now : (u : ℕ) (m : Mark) → is_unread m ≡ false → (es : List Entry) → key_count u es ≤ 1
    → Each (IsRead u) (set_mark u es m)
read_now u m read [] few = tt
read_now u m read (e ∷ es) few =
    let counted = count_by-cons (λ (d : Entry). nat_eq u d.0) e es in
    by (nat_eq u e.0) refl counted (read_now u m read es)
  where
    by : (b : Bool) → nat_eq u e.0 ≡ b → key_count u (e ∷ es) ≡ cond b 1 0 + key_count u es
        → (key_count u es ≤ 1 → Each (IsRead u) (set_mark u es m)) → Each (IsRead u) (cond b ((e.0, record { mark = m; kept = e.1.kept }) ∷ es) (e ∷ set_mark u es m))
    by true is counted rest = (λ same. read, no_key u es (omega (arith, few, counted)))
    by false is counted rest = (λ same. absurd (false≢true (sym is ∙ same)), rest (omega (arith, few, counted)))

-- The queues once a pending request is read, of this number and mark.
module _ (q : QueueState Purpose) (v : ℕ) (m : Mark) where
  pub reading_numbered : Numbered q → Numbered (after_reading q v m)
  reading_numbered n = by m
    where
      marked : (m : Mark) → is_unread m ≡ false → Each (λ e. (e.0 % 2 ≡ 0) × (e.0 < q.next)) (set_mark v q.requests m)
      marked m read = set_read (λ e. (e.0 % 2 ≡ 0) × (e.0 < q.next)) (λ e m read p. p) v m read q.requests n.requests

      by : (m : Mark) → Numbered (after_reading q v m)
      by mark.Unread = record { next = n.next; requests = marked mark.Read refl }
      by mark.Flagged = record { next = n.next; requests = marked mark.Interrupted refl }
      by mark.Read = n
      by mark.Interrupted = n

  pub reading_passed : (u : ℕ) → Passed u q → Passed u (after_reading q v m)
  reading_passed u p = by m
    where
      marked : (m : Mark) → is_unread m ≡ false → Each (IsRead u) (set_mark v q.requests m)
      marked m read = set_read (IsRead u) (λ e m read p is. read) v m read q.requests p.read

      by : (m : Mark) → Passed u (after_reading q v m)
      by mark.Unread = record { low = p.low; read = marked mark.Read refl }
      by mark.Flagged = record { low = p.low; read = marked mark.Interrupted refl }
      by mark.Read = p
      by mark.Interrupted = p

  pub reading_passes : v < q.next → key_count v q.requests ≤ 1 → is_unread m ≡ true → Passed v (after_reading q v m)
  reading_passes low few unread = by m unread
    where
      by : (m : Mark) → is_unread m ≡ true → Passed v (after_reading q v m)
      by mark.Unread unread = record { low = low; read = read_now v mark.Read refl q.requests few }
      by mark.Flagged unread = record { low = low; read = read_now v mark.Interrupted refl q.requests few }
      by mark.Read unread = absurd (false≢true unread)
      by mark.Interrupted unread = absurd (false≢true unread)

-- A number from the coming one on has no request.
pub none_from : (u n : ℕ) → n ≤ u → (es : List Entry) → Each (λ e. (e.0 % 2 ≡ 0) × (e.0 < n)) es → Each (IsRead u) es
none_from u n le [] all = tt
none_from u n le (e ∷ es) all =
    let low = all.0.1 in
    let apart : nat_eq u e.0 ≡ false = grind (arith, nat_tests, low, le) in
    (λ is. absurd (false≢true (sym apart ∙ is)), none_from u n le es all.1)
