-- The RELEASEs that are pending, as the kernel moves its requests.
use Rattle.std.proofs.Common.{◌≡◌, ℕ, ◌+◌, Bool, true, false, cond, List, [], ◌∷◌, filter, Some, nat_eq, refl, ap, ◌∙◌, arith}
use Rattle.std.specs.Prelude.{sum_by}
use Rattle.std.specs.Map.{lookup, remove_entry}
use Rattle.std.proofs.lemmas.List.Sums.{sum_by-cons, sum_by_push}
use Rattle.fuse_spec.specs.declared.Mark.{Mark}
use Rattle.fuse_spec.specs.declared.Mark.TheVariants.{Unread}
use Rattle.fuse_spec.specs.declared.Opened.{Opened}
use Rattle.fuse_spec.specs.declared.Purpose.{Purpose}
use Rattle.fuse_spec.specs.declared.QueuedRequest.{QueuedRequest}
use Rattle.fuse_spec.specs.Kernel.Queues.{QueueState, is_unread, request_under}
use Rattle.fuse_spec.specs.Kernel.QueueCalls.{after_enqueue, set_mark}
use Rattle.fuse_theorem.specs.OpenNumbers.{released_for}
use Rattle.fuse_theorem.proofs.Lists.OpenSums.{pending_sum}

pub sum_filter : {X : Type 0} (f : X → ℕ) (test : X → Bool) (xs : List X)
    → sum_by f (filter test xs) ≡ sum_by (λ x. cond (test x) (f x) 0) xs
sum_filter f test [] = refl
sum_filter f test (x ∷ xs) = by (test x) refl (sum_filter f test xs)
  where
    whole : sum_by (λ y. cond (test y) (f y) 0) (x ∷ xs)
        ≡ cond (test x) (f x) 0 + sum_by (λ y. cond (test y) (f y) 0) xs
    whole = sum_by-cons (λ y. cond (test y) (f y) 0) x xs

    by : (b : Bool) → test x ≡ b → sum_by f (filter test xs) ≡ sum_by (λ y. cond (test y) (f y) 0) xs
        → sum_by f (cond b (x ∷ filter test xs) (filter test xs)) ≡ sum_by (λ y. cond (test y) (f y) 0) (x ∷ xs)
    by true is rest =
        let left = sum_by-cons f x (filter test xs) in
        let here = ap (λ (b : Bool). cond b (f x) 0) is in
        omega (arith, left, whole, here, rest)
    by false is rest = let here = ap (λ (b : Bool). cond b (f x) 0) is in omega (arith, whole, here, rest)

module _ (f : Opened → ℕ) where
  -- what a request of the table releases while it is pending
  abbrev pub unread_sum : QueuedRequest Purpose → ℕ
  unread_sum r = cond (is_unread r.mark) (sum_by f (released_for r.kept)) 0

  abbrev pub table_sum : List (ℕ × QueuedRequest Purpose) → ℕ
  table_sum es = sum_by (λ (e : ℕ × QueuedRequest Purpose). unread_sum e.1) es

  pub pending_is : (q : QueueState Purpose) → pending_sum f q ≡ table_sum q.requests
  pending_is q = sum_filter (λ (e : ℕ × QueuedRequest Purpose). sum_by f (released_for e.1.kept))
      (λ (e : ℕ × QueuedRequest Purpose). is_unread e.1.mark) q.requests

  -- A request is queued.
  pub queued_sum : (q : QueueState Purpose) (kept : Purpose)
      → pending_sum f (after_enqueue q kept) ≡ pending_sum f q + sum_by f (released_for kept)
  queued_sum q kept =
      let before = pending_is q in
      let after = pending_is (after_enqueue q kept) in
      let pushed = sum_by_push (λ (e : ℕ × QueuedRequest Purpose). unread_sum e.1) q.requests
      (q.next, record { mark = Unread; kept = kept }) in
      omega (arith, before, after, pushed)

  -- A request goes.
  gone_sum : (u : ℕ) (r : QueuedRequest Purpose) (es : List (ℕ × QueuedRequest Purpose))
      → lookup (nat_eq u) es ≡ Some r → table_sum (remove_entry (nat_eq u) es) + unread_sum r ≡ table_sum es
  gone_sum u r [] found = absurd (cc)
  gone_sum u r (e ∷ es) found = by (nat_eq u e.0) found (gone_sum u r es)
    where
      whole : table_sum (e ∷ es) ≡ unread_sum e.1 + table_sum es
      whole = sum_by-cons (λ (d : ℕ × QueuedRequest Purpose). unread_sum d.1) e es

      by : (b : Bool) → cond b (Some e.1) (lookup (nat_eq u) es) ≡ Some r
          → (lookup (nat_eq u) es ≡ Some r → table_sum (remove_entry (nat_eq u) es) + unread_sum r ≡ table_sum es)
          → table_sum (cond b es (e ∷ remove_entry (nat_eq u) es)) + unread_sum r ≡ table_sum (e ∷ es)
      by true f rest = let is : e.1 ≡ r = cc in let same = ap unread_sum is in omega (arith, whole, same)
      by false f rest =
          let left = sum_by-cons (λ (d : ℕ × QueuedRequest Purpose). unread_sum d.1) e (remove_entry (nat_eq u) es) in
          let more = rest f in
          omega (arith, whole, left, more)

  pub ended_sum : (q r : QueueState Purpose) (u : ℕ) (x : QueuedRequest Purpose) → request_under q u ≡ Some x
      → r.requests ≡ remove_entry (nat_eq u) q.requests → pending_sum f r + unread_sum x ≡ pending_sum f q
  ended_sum q r u x under left =
      let before = pending_is q in
      let after = pending_is r ∙ ap table_sum left in
      let gone = gone_sum u x q.requests under in
      omega (arith, before, after, gone)

  -- A request gets another mark.
  remarked_sum : (u : ℕ) (m : Mark) (r : QueuedRequest Purpose) (es : List (ℕ × QueuedRequest Purpose))
      → lookup (nat_eq u) es ≡ Some r
      → table_sum (set_mark u es m) + unread_sum r ≡ table_sum es + unread_sum (record { mark = m; kept = r.kept })
  remarked_sum u m r [] found = absurd (cc)
  remarked_sum u m r (e ∷ es) found = by (nat_eq u e.0) found (remarked_sum u m r es)
    where
      whole : table_sum (e ∷ es) ≡ unread_sum e.1 + table_sum es
      whole = sum_by-cons (λ (d : ℕ × QueuedRequest Purpose). unread_sum d.1) e es

      by : (b : Bool) → cond b (Some e.1) (lookup (nat_eq u) es) ≡ Some r
          → (lookup (nat_eq u) es ≡ Some r → table_sum (set_mark u es m) + unread_sum r
          ≡ table_sum es + unread_sum (record { mark = m; kept = r.kept }))
          → table_sum (cond b ((e.0, record { mark = m; kept = e.1.kept }) ∷ es) (e ∷ set_mark u es m)) + unread_sum r
          ≡ table_sum (e ∷ es) + unread_sum (record { mark = m; kept = r.kept })
      by true f rest =
          let is : e.1 ≡ r = cc in
          let old = ap unread_sum is in
          let new = ap (λ (x : QueuedRequest Purpose). unread_sum (record { mark = m; kept = x.kept })) is in
          let now = sum_by-cons (λ (d : ℕ × QueuedRequest Purpose). unread_sum d.1)
          (e.0, record { mark = m; kept = e.1.kept }) es in
          omega (arith, whole, old, new, now)
      by false f rest =
          let now = sum_by-cons (λ (d : ℕ × QueuedRequest Purpose). unread_sum d.1) e (set_mark u es m) in
          let more = rest f in
          omega (arith, whole, now, more)

  pub marked_sum : (q r : QueueState Purpose) (u : ℕ) (m : Mark) (x : QueuedRequest Purpose)
      → request_under q u ≡ Some x → r.requests ≡ set_mark u q.requests m
      → pending_sum f r + unread_sum x ≡ pending_sum f q + unread_sum (record { mark = m; kept = x.kept })
  marked_sum q r u m x under left =
      let before = pending_is q in
      let after = pending_is r ∙ ap table_sum left in
      let marked = remarked_sum u m x q.requests under in
      omega (arith, before, after, marked)
