-- How many requests wait: as many as their table has rows.
use Rattle.std.proofs.Common.{◌≡◌, ◌≢◌, ◌≤◌, ℕ, ◌+◌, Bool, true, false, not, cond, T, ◌&&◌, List, [], ◌∷◌, length, Some, None, refl, sym, ◌∙◌, ap, subst, arith, rules, nat_eq, inl, inr}
use Rattle.std.specs.Prelude.{filter}
use Rattle.std.specs.declared.cmp.Ordering.{Ordering}
use Rattle.std.specs.declared.cmp.Ordering.TheVariants.{Less, Equal, Greater}
use Rattle.std.specs.Ordering.{nat_cmp, is_lt}
use Rattle.std.specs.Cmp.{ranked, nat_cmp_is}
use Rattle.std.specs.FinMap.{is_sorted}
use Rattle.std.specs.FinMap.Entries.{below_all}
use Rattle.std.proofs.lemmas.Bool.{cases_eq}
use Rattle.fuse_spec.specs.Values.Maps.{Map, get, put, remove}
use Rattle.fuse_spec.proofs.Tables.{tie_no}
use Rattle.fuse_tables.proofs.Maps.{first_there, get-put, get-remove, same_rows, sorted_later, sorted_put, sorted_remove}
use Rattle.fuse_sessions.specs.declared.act.Asked.{Asked}
use Rattle.fuse_judge.specs.declared.pending.Waiting.{Waiting}
use Rattle.fuse_judge.specs.Pending.{entry_of}
use Rattle.fuse_judge.proofs.Keys.{same}
use Rattle.fuse_judge.proofs.PendingLaws.{kept_both, kept_none, without}

same_number : (k q : ℕ) → nat_eq k q ≡ true → k ≡ q
same_number k q e = grind (arith, rules)

-- ---- a row is taken out and put back

module _ {X : Type 0} (m : Map X) (k : ℕ) (sorted : T (is_sorted nat_cmp m)) where
  alike_none : (q : ℕ) (b : Bool) → nat_eq k q ≡ b → get m k ≡ None → cond b None (get m q) ≡ get m q
  alike_none q false e none = refl
  alike_none q true e none = sym (subst (λ i. get m i ≡ None) (same_number k q e) none)

  pub none_removed : get m k ≡ None → remove m k ≡ m
  none_removed none = same_rows (remove m k) m (sorted_remove m k sorted) sorted
      (λ q. get-remove m k q ∙ alike_none q (nat_eq k q) refl none)

  alike_some : (x : X) (q : ℕ) (b : Bool) → nat_eq k q ≡ b → get m k ≡ Some x
      → cond b (Some x) (cond b None (get m q)) ≡ get m q
  alike_some x q false e some = refl
  alike_some x q true e some = sym (subst (λ i. get m i ≡ Some x) (same_number k q e) some)

  pub put_back : (x : X) → get m k ≡ Some x → put (remove m k) k x ≡ m
  put_back x some = same_rows (put (remove m k) k x) m (sorted_put (remove m k) k x (sorted_remove m k sorted)) sorted
      (λ q. get-put (remove m k) k x q ∙ ap (cond (nat_eq k q) (Some x)) (get-remove m k q)
      ∙ alike_some x q (nat_eq k q) refl some)

-- ---- the first key comes once

first : (a b : Bool) → T (a && b) → T a
first true b h = tt
first false b h = absurd h

second : (a b : Bool) → T (a && b) → T b
second true b h = h
second false b h = absurd h

module _ {X : Type 0} where
  none_below : (k low : ℕ) (m : Map X) → k ≤ low → T (below_all nat_cmp low m) → get m k ≡ None
  none_below k low [] le h = refl
  none_below k low (e ∷ es) le h =
      let lower = ranked low e.0 Less (lower_is (nat_cmp low e.0) (first _ _ h)) in
      rw (← nat_cmp_is k e.0 Less (omega arith)) (none_below k low es le (second _ _ h))
    where
      lower_is : (r : Ordering) → T (is_lt r) → Less ≡ r
      lower_is Less p = refl
      lower_is Equal p = absurd p
      lower_is Greater p = absurd p

  not_later : (e : ℕ × X) (es : Map X) → T (is_sorted nat_cmp (e ∷ es)) → get es e.0 ≡ None
  not_later e es h = none_below e.0 e.0 es (omega arith) (first _ _ h)

  other_later : (e : ℕ × X) (es : Map X) (q : ℕ) → q ≢ e.0 → get (e ∷ es) q ≡ get es q
  other_later e es q ne = ap (λ b. cond b (Some e.1) (get es q)) (tie_no q e.0 ne)

-- ---- the counts

-- what passes a test, and what does not
split : {X : Type 0} (p : X → Bool) (xs : List X)
    → length xs ≡ length (filter p xs) + length (filter (λ x. not (p x)) xs)
split p [] = omega arith
split p (x ∷ xs) = by (p x) (split p xs)
  where
    by : (b : Bool) → length xs ≡ length (filter p xs) + length (filter (λ y. not (p y)) xs)
        → length (x ∷ xs) ≡ length (cond b (x ∷ filter p xs) (filter p xs))
        + length (cond (not b) (x ∷ filter (λ y. not (p y)) xs) (filter (λ y. not (p y)) xs))
    by true ih = omega (arith, ih)
    by false ih = omega (arith, ih)

another : (u q k : ℕ) → u ≢ q → nat_eq q k ≡ true → not (nat_eq u k) ≡ true
another u q k ne e = grind (arith, rules)

module _ (row : ℕ × Waiting) (rows : Map Waiting) (xs : List (ℕ × Asked)) (sorted : T (is_sorted nat_cmp (row ∷ rows)))
    (once : (q : ℕ) → filter (λ e. nat_eq q e.0) xs ≡ entry_of q (get (row ∷ rows) q)) where
  one : length xs ≡ 1 + length (without row.0 xs)
  one =
      let parts : length xs ≡ length (filter (λ (e : ℕ × Asked). nat_eq row.0 e.0) xs) + length (without row.0 xs)
      = split (λ (e : ℕ × Asked). nat_eq row.0 e.0) xs in
      let here : length (filter (λ (e : ℕ × Asked). nat_eq row.0 e.0) xs) ≡ 1
      = ap length (once row.0 ∙ ap (entry_of row.0) (first_there row rows)) in
      omega (arith, parts, here)

  rest : (q : ℕ) → filter (λ e. nat_eq q e.0) (without row.0 xs) ≡ entry_of q (get rows q)
  rest q = elim (cases_eq q row.0) [
    | inl e ↦ subst (λ u. filter (λ (x : ℕ × Asked). nat_eq u x.0) (without row.0 xs) ≡ entry_of u (get rows u)) (sym e)
        (kept_none (λ (x : ℕ × Asked). nat_eq row.0 x.0) (λ (x : ℕ × Asked). not (nat_eq row.0 x.0)) (λ x t. ap not t) xs
        ∙ sym (ap (entry_of row.0) (not_later row rows sorted)))
    | inr ne ↦ kept_both (λ (x : ℕ × Asked). nat_eq q x.0) (λ (x : ℕ × Asked). not (nat_eq row.0 x.0))
        (λ x t. another row.0 q x.0 (λ e. ne (sym e)) t) xs
        ∙ once q ∙ ap (entry_of q) (other_later row rows q ne)
  ]

-- a list in which each request of the table stands once, and no other
pub as_many : (rows : Map Waiting) (xs : List (ℕ × Asked)) → T (is_sorted nat_cmp rows)
    → ((q : ℕ) → filter (λ e. nat_eq q e.0) xs ≡ entry_of q (get rows q)) → length rows ≡ length xs
as_many [] [] sorted once = refl
as_many [] (x ∷ xs) sorted once =
    let none : cond true (x ∷ filter (λ e. nat_eq x.0 e.0) xs) (filter (λ e. nat_eq x.0 e.0) xs) ≡ []
    = ap (λ b. cond b (x ∷ filter (λ e. nat_eq x.0 e.0) xs) (filter (λ e. nat_eq x.0 e.0) xs)) (sym (same x.0)) ∙ once x.0 in
    cc
as_many (row ∷ rows) xs sorted once =
    let more = one row rows xs sorted once in
    let later = as_many rows (without row.0 xs) (sorted_later row rows sorted) (rest row rows xs sorted once) in
    omega (arith, more, later)
