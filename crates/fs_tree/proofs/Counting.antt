-- How many of a list pass a test, and which is found.
use Rattle.std.proofs.Common.{◌≡◌, ℕ, zero, suc, ◌+◌, ◌≤◌, Bool, true, false, true≢false, not, cond, List, [], ◌∷◌, Option, Some, None, count_by, find, filter, refl, sym, subst, ◌∙◌, arith, All, Contains}
use Rattle.std.proofs.lemmas.List.Elements.{All-nil, All-cons, All-head, All-tail, Contains-append_left, Contains-append_right, Contains-push}
use Rattle.fuse_spec.proofs.QueueCounts.{count_by-cons}

module _ {E : Type 0} (p : E → Bool) where
  -- where none passes the test, each fails it
  pub each_fails : (xs : List E) → count_by p xs ≡ 0 → All (λ x. p x ≡ false) xs
  each_fails [] none = All-nil (λ x. p x ≡ false)
  each_fails (x ∷ xs) none = by (p x) refl (each_fails xs)
    where
      counted : count_by p (x ∷ xs) ≡ cond (p x) 1 0 + count_by p xs
      counted = count_by-cons p x xs

      by : (b : Bool) → p x ≡ b → (count_by p xs ≡ 0 → All (λ y. p y ≡ false) xs) → All (λ y. p y ≡ false) (x ∷ xs)
      by true h rest = absurd (grind (arith, counted, none, h))
      by false h rest = All-cons (λ y. p y ≡ false) x xs h (rest (grind (arith, counted, none, h)))

  -- what is found passes the test
  pub found_passes : (xs : List E) (x : E) → find p xs ≡ Some x → p x ≡ true
  found_passes [] x found = cc
  found_passes (y ∷ ys) x found = by (p y) refl found (found_passes ys x)
    where
      by : (b : Bool) → p y ≡ b → cond b (Some y) (find p ys) ≡ Some x → (find p ys ≡ Some x → p x ≡ true) → p x ≡ true
      by true h f rest = let same : y ≡ x = cc in subst (λ z. p z ≡ true) same h
      by false h f rest = rest f

  -- what is found is there
  pub found_there : (xs : List E) (x : E) → find p xs ≡ Some x → Contains xs x
  found_there [] x found = absurd (cc)
  found_there (y ∷ ys) x found = by (p y) found (found_there ys x)
    where
      by : (b : Bool) → cond b (Some y) (find p ys) ≡ Some x → (find p ys ≡ Some x → Contains ys x)
          → Contains (y ∷ ys) x
      by true f rest = let same : y ≡ x = cc in subst (Contains (y ∷ ys)) same
          (Contains-append_left (y ∷ []) ys y (Contains-push [] y))
      by false f rest = Contains-append_right (y ∷ []) ys x (rest f)

  -- where none is found, each fails the test
  pub none_passes : (xs : List E) → find p xs ≡ None → All (λ x. p x ≡ false) xs
  none_passes [] none = All-nil (λ x. p x ≡ false)
  none_passes (x ∷ xs) none = by (p x) refl none (none_passes xs)
    where
      by : (b : Bool) → p x ≡ b → cond b (Some x) (find p xs) ≡ None → (find p xs ≡ None → All (λ y. p y ≡ false) xs)
          → All (λ y. p y ≡ false) (x ∷ xs)
      by true h f rest = absurd (cc)
      by false h f rest = All-cons (λ y. p y ≡ false) x xs h (rest f)

  -- where one at most passes, each that passes is the one that is found
  pub only_one : (xs : List E) (x : E) → count_by p xs ≤ 1 → find p xs ≡ Some x → All (λ y. p y ≡ true → y ≡ x) xs
  only_one [] x few found = absurd (cc)
  only_one (y ∷ ys) x few found = by (p y) refl found (only_one ys x)
    where
      counted : count_by p (y ∷ ys) ≡ cond (p y) 1 0 + count_by p ys
      counted = count_by-cons p y ys

      Only : E → Type 0
      Only z = p z ≡ true → z ≡ x

      failing : (zs : List E) → All (λ z. p z ≡ false) zs → All Only zs
      failing [] h = All-nil Only
      failing (z ∷ zs) h = All-cons Only z zs (λ passes. absurd
          (true≢false (sym passes ∙ All-head (λ w. p w ≡ false) z zs h)))
          (failing zs (All-tail (λ w. p w ≡ false) z zs h))

      by : (b : Bool) → p y ≡ b → cond b (Some y) (find p ys) ≡ Some x
          → (count_by p ys ≤ 1 → find p ys ≡ Some x → All Only ys) → All Only (y ∷ ys)
      by true h f rest = let same : y ≡ x = cc in All-cons Only y ys (λ passes. same)
          (failing ys (each_fails ys (grind (arith, counted, few, h))))
      by false h f rest = All-cons Only y ys (λ passes. absurd (true≢false (sym passes ∙ h)))
          (rest (grind (arith, counted, few, h)) f)

  -- where each fails the test, none passes
  pub none_counted : (xs : List E) → All (λ x. p x ≡ false) xs → count_by p xs ≡ 0
  none_counted [] h = refl
  none_counted (x ∷ xs) h =
      let counted = count_by-cons p x xs in
      let first = All-head (λ y. p y ≡ false) x xs h in
      let rest = none_counted xs (All-tail (λ y. p y ≡ false) x xs h) in
      rw (counted, first) (omega (arith, rest))

  -- one that passes is counted
  pub each_counted : (xs : List E) → All (λ x. p x ≡ true → 1 ≤ count_by p xs) xs
  each_counted xs i d lt passes = by (count_by p xs) refl
    where
      by : (count : ℕ) → count_by p xs ≡ count → 1 ≤ count_by p xs
      by zero none = absurd (true≢false (sym passes ∙ each_fails xs none i d lt))
      by (suc count) some = omega (arith, some)

  -- where some pass, one is found
  pub one_found : (xs : List E) → 1 ≤ count_by p xs → (x : E) × (find p xs ≡ Some x)
  one_found xs some = by (find p xs) refl
    where
      by : (o : Option E) → find p xs ≡ o → (x : E) × (o ≡ Some x)
      by None none = let zero_is = none_counted xs (none_passes xs none) in absurd (omega (arith, zero_is, some))
      by (Some x) found = (x, refl)

module _ {E : Type 0} (p q : E → Bool) where
  -- of those that are left no more pass
  pub count_where : (xs : List E) → count_by p (filter q xs) ≤ count_by p xs
  count_where [] = omega arith
  count_where (x ∷ xs) = by (q x) (count_where xs)
    where
      counted : count_by p (x ∷ xs) ≡ cond (p x) 1 0 + count_by p xs
      counted = count_by-cons p x xs

      by : (b : Bool) → count_by p (filter q xs) ≤ count_by p xs
          → count_by p (cond b (x ∷ filter q xs) (filter q xs)) ≤ count_by p (x ∷ xs)
      by true rest = let left = count_by-cons p x (filter q xs) in rw (counted, left) (omega (arith, rest))
      by false rest = rw counted (omega (arith, rest))

module _ {E : Type 0} (p q : E → Bool) where
  -- where those that go fail the test, as many pass as before
  pub count_kept : (xs : List E) → All (λ x. q x ≡ true → p x ≡ false) xs
      → count_by p (filter (λ x. not (q x)) xs) ≡ count_by p xs
  count_kept [] h = refl
  count_kept (x ∷ xs) h = by (q x) refl (count_kept xs (All-tail (λ y. q y ≡ true → p y ≡ false) x xs h))
    where
      counted : count_by p (x ∷ xs) ≡ cond (p x) 1 0 + count_by p xs
      counted = count_by-cons p x xs

      by : (b : Bool) → q x ≡ b → count_by p (filter (λ y. not (q y)) xs) ≡ count_by p xs
          → count_by p (cond (not b) (x ∷ filter (λ y. not (q y)) xs) (filter (λ y. not (q y)) xs))
          ≡ count_by p (x ∷ xs)
      by true e rest = let fails = All-head (λ y. q y ≡ true → p y ≡ false) x xs h e in
          rw (counted, fails) (omega (arith, rest))
      by false e rest = let left = count_by-cons p x (filter (λ y. not (q y)) xs) in rw (counted, left, rest) refl

  -- where one that goes passes, fewer are left
  pub count_fewer : (xs : List E) (x : E) → find q xs ≡ Some x → p x ≡ true
      → count_by p (filter (λ y. not (q y)) xs) + 1 ≤ count_by p xs
  count_fewer [] x found passes = absurd (cc)
  count_fewer (y ∷ ys) x found passes = by (q y) refl found (count_fewer ys x)
    where
      counted : count_by p (y ∷ ys) ≡ cond (p y) 1 0 + count_by p ys
      counted = count_by-cons p y ys

      by : (b : Bool) → q y ≡ b → cond b (Some y) (find q ys) ≡ Some x
          → (find q ys ≡ Some x → p x ≡ true → count_by p (filter (λ z. not (q z)) ys) + 1 ≤ count_by p ys)
          → count_by p (cond (not b) (y ∷ filter (λ z. not (q z)) ys) (filter (λ z. not (q z)) ys)) + 1 ≤ count_by p
          (y ∷ ys)
      by true e f rest =
          let same : y ≡ x = cc in
          let mine : p y ≡ true = subst (λ z. p z ≡ true) (sym same) passes in
          let few = count_where p (λ z. not (q z)) ys in
          rw (counted, mine) (omega (arith, few))
      by false e f rest = let left = count_by-cons p y (filter (λ z. not (q z)) ys) in let few =
          rest f passes in rw (counted, left) (omega (arith, few))

module _ {E : Type 0} (q : E → Bool) where
  -- none is left of those that go
  pub all_gone : (xs : List E) → count_by q (filter (λ x. not (q x)) xs) ≡ 0
  all_gone xs = none_counted q (filter (λ x. not (q x)) xs) (left xs)
    where
      left : (ys : List E) → All (λ x. q x ≡ false) (filter (λ x. not (q x)) ys)
      left [] = All-nil (λ x. q x ≡ false)
      left (y ∷ ys) = by (q y) refl (left ys)
        where
          by : (b : Bool) → q y ≡ b → All (λ x. q x ≡ false) (filter (λ x. not (q x)) ys)
              → All (λ x. q x ≡ false) (cond (not b) (y ∷ filter (λ x. not (q x)) ys) (filter (λ x. not (q x)) ys))
          by true e rest = rest
          by false e rest = All-cons (λ x. q x ≡ false) y (filter (λ x. not (q x)) ys) e rest
