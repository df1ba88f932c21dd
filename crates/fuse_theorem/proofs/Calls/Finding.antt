-- The first request that serves a call, as requests are queued and go.
use Rattle.std.proofs.Common.{◌≡◌, ◌≢◌, ℕ, ◌+◌, ◌≤◌, Bool, true, false, true≢false, cond, List, [], ◌∷◌, ◌++◌, filter, Option, Some, None, nat_eq, count_by, find, option_map, refl, ap, sym, subst, ◌∙◌, arith, inl, inr, All}
use Rattle.std.proofs.lemmas.Bool.{cases_eq}
use Rattle.std.proofs.lemmas.Bool.Decides.{nat_tests, eqb_tells}
use Rattle.std.proofs.lemmas.List.Elements.{All-nil, All-cons, All-head, All-tail}
use Rattle.std.specs.Map.{lookup, remove_entry}
use Rattle.fuse_spec.specs.Values.Maps.{Map, get}
use Rattle.fuse_spec.proofs.Tables.{tie_no}
use Rattle.fuse_spec.proofs.QueueCounts.{key_count, count_by-cons, lookup-no_key}

pub same_is : (a : ℕ) → nat_eq a a ≡ true
same_is a = elim (eqb_tells a a) [ inl h ↦ h.0 | inr h ↦ absurd (h.1 refl) ]

pub other_is : (a b : ℕ) → a ≢ b → nat_eq a b ≡ false
other_is a b ne = elim (eqb_tells a b) [ inl h ↦ absurd (ne h.1) | inr h ↦ h.0 ]

module _ {X : Type 0} (p : X → Bool) where
  -- where none passes the test, each fails it
  pub none_passes : (xs : List X) → count_by p xs ≡ 0 → All (λ x. p x ≡ false) xs
  none_passes [] none = All-nil (λ x. p x ≡ false)
  none_passes (x ∷ xs) none = by (p x) refl (λ few. none_passes xs few)
    where
      counted : count_by p (x ∷ xs) ≡ cond (p x) 1 0 + count_by p xs
      counted = count_by-cons p x xs

      by : (b : Bool) → p x ≡ b → (count_by p xs ≡ 0 → All (λ y. p y ≡ false) xs) → All (λ y. p y ≡ false) (x ∷ xs)
      by true h rest = absurd (grind (arith, counted, none, h))
      by false h rest = All-cons (λ y. p y ≡ false) x xs h (rest (grind (arith, counted, none, h)))

  -- where each fails the test, none passes
  pub all_fail : (xs : List X) → All (λ x. p x ≡ false) xs → count_by p xs ≡ 0
  all_fail [] h = refl
  all_fail (x ∷ xs) h =
      let counted = count_by-cons p x xs in
      let first = All-head (λ y. p y ≡ false) x xs h in
      let rest = all_fail xs (All-tail (λ y. p y ≡ false) x xs h) in
      rw (counted, first) (omega (arith, rest))

  pub All-filter : (P : X → Type 0) (xs : List X) → All P xs → All P (filter p xs)
  All-filter P [] h = All-nil P
  All-filter P (x ∷ xs) h = by (p x) (All-filter P xs (All-tail P x xs h))
    where
      by : (b : Bool) → All P (filter p xs) → All P (cond b (x ∷ filter p xs) (filter p xs))
      by true rest = All-cons P x (filter p xs) (All-head P x xs h) rest
      by false rest = rest

  -- those that pass a test pass it
  pub filtered : (xs : List X) → All (λ x. p x ≡ true) (filter p xs)
  filtered [] = All-nil (λ x. p x ≡ true)
  filtered (x ∷ xs) = by (p x) refl (filtered xs)
    where
      by : (b : Bool) → p x ≡ b → All (λ y. p y ≡ true) (filter p xs)
          → All (λ y. p y ≡ true) (cond b (x ∷ filter p xs) (filter p xs))
      by true h rest = All-cons (λ y. p y ≡ true) x (filter p xs) h rest
      by false h rest = rest

  -- the first that passes stays the first as more come
  pub find_first : {Y : Type 0} (f : X → Y) (xs ys : List X) (y : Y) → option_map f (find p xs) ≡ Some y
      → option_map f (find p (xs ++ ys)) ≡ Some y
  find_first f [] ys y e = cc
  find_first f (x ∷ xs) ys y e = by (p x) e (find_first f xs ys y)
    where
      by : (b : Bool) → option_map f (cond b (Some x) (find p xs)) ≡ Some y
          → (option_map f (find p xs) ≡ Some y → option_map f (find p (xs ++ ys)) ≡ Some y)
          → option_map f (cond b (Some x) (find p (xs ++ ys))) ≡ Some y
      by true e rest = e
      by false e rest = rest e

  -- one that passes behind others that fail is the first
  pub find_last : (xs : List X) (x : X) → count_by p xs ≡ 0 → p x ≡ true → find p (xs ++ x ∷ []) ≡ Some x
  find_last [] x none passes = rw passes refl
  find_last (y ∷ xs) x none passes = by (p y) refl (λ few. find_last xs x few passes)
    where
      counted : count_by p (y ∷ xs) ≡ cond (p y) 1 0 + count_by p xs
      counted = count_by-cons p y xs

      by : (b : Bool) → p y ≡ b → (count_by p xs ≡ 0 → find p (xs ++ x ∷ []) ≡ Some x)
          → find p (y ∷ xs ++ x ∷ []) ≡ Some x
      by true h rest = absurd (grind (arith, counted, none, h))
      by false h rest = rw h (rest (grind (arith, counted, none, h)))

module _ {X : Type 0} where
  -- the key of an entry that is found is there
  pub found_key : (p : ℕ × X → Bool) (es : List (ℕ × X)) (u : ℕ) → option_map (λ e. e.0) (find p es) ≡ Some u
      → lookup (nat_eq u) es ≢ None
  found_key p [] u found = cc
  found_key p (e ∷ es) u found = by (p e) found (found_key p es u)
    where
      there : (b : Bool) → lookup (nat_eq u) es ≢ None → cond b (Some e.1) (lookup (nat_eq u) es) ≢ None
      there true h = λ q. cc
      there false h = h

      by : (b : Bool) → option_map (λ (d : ℕ × X). d.0) (cond b (Some e) (find p es)) ≡ Some u
          → (option_map (λ (d : ℕ × X). d.0) (find p es) ≡ Some u → lookup (nat_eq u) es ≢ None)
          → lookup (nat_eq u) (e ∷ es) ≢ None
      by true f rest =
          let same : e.0 ≡ u = cc in
          let here : nat_eq u e.0 ≡ true = subst (λ (n : ℕ). nat_eq u n ≡ true) (sym same) (same_is u) in
          rw here (λ q. cc)
      by false f rest = there (nat_eq u e.0) (rest f)

  -- where nothing is found under a key, no entry has it
  pub no_key : (u : ℕ) (es : List (ℕ × X)) → lookup (nat_eq u) es ≡ None → All (λ (e : ℕ × X). e.0 ≢ u) es
  no_key u [] none = All-nil (λ (e : ℕ × X). e.0 ≢ u)
  no_key u (e ∷ es) none = by (nat_eq u e.0) refl none (no_key u es)
    where
      by : (b : Bool) → nat_eq u e.0 ≡ b → cond b (Some e.1) (lookup (nat_eq u) es) ≡ None
          → (lookup (nat_eq u) es ≡ None → All (λ (d : ℕ × X). d.0 ≢ u) es) → All (λ (d : ℕ × X). d.0 ≢ u) (e ∷ es)
      by true h found rest = absurd (cc)
      by false h found rest =
          All-cons (λ (d : ℕ × X). d.0 ≢ u) e es (λ same. true≢false (sym (same_is u) ∙ ap (nat_eq u) (sym same) ∙ h))
          (rest found)

-- some key has no entry
pub absent : {X : Type 0} (m : Map X) → (n : ℕ) × (get m n ≡ None)
absent {X} m = let low = keys_below m in (low.0, low.1 low.0 (omega arith))
  where
    keys_below : (m : Map X) → (top : ℕ) × ((n : ℕ) → top ≤ n → get m n ≡ None)
    keys_below [] = (0, λ n le. refl)
    keys_below (e ∷ m) =
        let rest = keys_below m in (
          e.0 + 1 + rest.0,
          λ n le. ap (λ (b : Bool). cond b (Some e.1) (get m n))
              (tie_no n e.0 (λ same. absurd (omega (arith, same, le)))) ∙ rest.1 n (omega (arith, le)),
        )

module _ {X : Type 0} where
  -- each of those that pass a test and are left
  pub All-filter_left : (P : ℕ × X → Type 0) (f : ℕ × X → Bool) (u : ℕ) (es : List (ℕ × X)) → All P (filter f es)
      → All P (filter f (remove_entry (nat_eq u) es))
  All-filter_left P f u [] h = h
  All-filter_left P f u (e ∷ es) h = by (nat_eq u e.0) (f e) refl (λ k. All-filter_left P f u es k)
    where
      by : (b c : Bool) → f e ≡ c → (All P (filter f es) → All P (filter f (remove_entry (nat_eq u) es)))
          → All P (filter f (cond b es (e ∷ remove_entry (nat_eq u) es)))
      by true true q rest = All-tail P e (filter f es) (rw q at h)
      by true false q rest = rw q at h
      by false true q rest = rw q (All-cons P e (filter f (remove_entry (nat_eq u) es))
          (All-head P e (filter f es) (rw q at h)) (rest (All-tail P e (filter f es) (rw q at h))))
      by false false q rest = rw q (rest (rw q at h))

  -- the first that passes a test stays the first as another key goes
  pub find_left : (p : ℕ × X → Bool) (u v : ℕ) (es : List (ℕ × X))
      → option_map (λ (e : ℕ × X). e.0) (find p es) ≡ Some v → v ≢ u
      → option_map (λ (e : ℕ × X). e.0) (find p (remove_entry (nat_eq u) es)) ≡ Some v
  find_left p u v [] found ne = found
  find_left p u v (e ∷ es) found ne = grind (arith, nat_tests, found, ne, find_left p u v es)

  -- how many pass a test, the one that goes among them
  pub count_left : (p : ℕ × X → Bool) (u : ℕ) (x : X) (es : List (ℕ × X)) → lookup (nat_eq u) es ≡ Some x
      → count_by p (remove_entry (nat_eq u) es) + cond (p (u, x)) 1 0 ≡ count_by p es
  count_left p u x [] found = cc
  count_left p u x (e ∷ es) found = by (nat_eq u e.0) refl (count_left p u x es)
    where
      counted : count_by p (e ∷ es) ≡ cond (p e) 1 0 + count_by p es
      counted = count_by-cons p e es

      by : (b : Bool) → nat_eq u e.0 ≡ b → (lookup (nat_eq u) es ≡ Some x
          → count_by p (remove_entry (nat_eq u) es) + cond (p (u, x)) 1 0 ≡ count_by p es)
          → count_by p (remove_entry (nat_eq u) (e ∷ es)) + cond (p (u, x)) 1 0 ≡ count_by p (e ∷ es)
      by true h rest =
          let here : Some e.1 ≡ Some x = rw h at found in
          let is : e.1 ≡ x = cc in
          let key : u ≡ e.0 = grind (arith, nat_tests, h) in
          let whole : p (u, x) ≡ p e = λ i. p (key i, sym is i) in
          rw (h, counted, whole) (omega arith)
      by false h rest =
          let left : count_by p (e ∷ remove_entry (nat_eq u) es)
          ≡ cond (p e) 1 0 + count_by p (remove_entry (nat_eq u) es) =
          count_by-cons p e (remove_entry (nat_eq u) es) in
          let more = rest (rw h at found) in
          rw (h, counted, left) (omega (arith, more))

  -- the entry that a test finds stands under its key, where each key stands once
  pub found_entry : (p : ℕ × X → Bool) (es : List (ℕ × X)) (u : ℕ) → key_count u es ≤ 1
      → option_map (λ (e : ℕ × X). e.0) (find p es) ≡ Some u
      → (x : X) × (lookup (nat_eq u) es ≡ Some x) × (p (u, x) ≡ true)
  found_entry p [] u once found = absurd (cc)
  found_entry p (e ∷ es) u once found = by (p e) refl found (found_entry p es u)
    where
      counted : key_count u (e ∷ es) ≡ cond (nat_eq u e.0) 1 0 + key_count u es
      counted = count_by-cons (λ (d : ℕ × X). nat_eq u d.0) e es

      later : (b : Bool) → nat_eq u e.0 ≡ b → (x : X) × (lookup (nat_eq u) es ≡ Some x) × (p (u, x) ≡ true)
          → (x : X) × (cond b (Some e.1) (lookup (nat_eq u) es) ≡ Some x) × (p (u, x) ≡ true)
      later true h rest =
          let none : key_count u es ≡ 0 = grind (arith, counted, once, h) in
          absurd (cc (lookup-no_key u es none, rest.1))
      later false h rest = rest

      by : (b : Bool) → p e ≡ b → option_map (λ (d : ℕ × X). d.0) (cond b (Some e) (find p es)) ≡ Some u
          → (key_count u es ≤ 1 → option_map (λ (d : ℕ × X). d.0) (find p es) ≡ Some u
          → (x : X) × (lookup (nat_eq u) es ≡ Some x) × (p (u, x) ≡ true))
          → (x : X) × (lookup (nat_eq u) (e ∷ es) ≡ Some x) × (p (u, x) ≡ true)
      by true h f rest =
          let key : e.0 ≡ u = cc in (
            e.1,
            subst (λ (n : ℕ). cond (nat_eq n e.0) (Some e.1) (lookup (nat_eq n) es) ≡ Some e.1) key
                (ap (λ (b : Bool). cond b (Some e.1) (lookup (nat_eq e.0) es)) (same_is e.0)),
            subst (λ (n : ℕ). p (n, e.1) ≡ true) key h,
          )
      by false h f rest = later (nat_eq u e.0) refl (rest (omega (arith, counted, once)) f)

  -- no more pass a test once one goes
  pub count_less : (p : ℕ × X → Bool) (u : ℕ) (es : List (ℕ × X))
      → count_by p (remove_entry (nat_eq u) es) ≤ count_by p es
  count_less p u [] = omega arith
  count_less p u (e ∷ es) = by (nat_eq u e.0) refl (count_less p u es)
    where
      counted : count_by p (e ∷ es) ≡ cond (p e) 1 0 + count_by p es
      counted = count_by-cons p e es

      by : (b : Bool) → nat_eq u e.0 ≡ b → count_by p (remove_entry (nat_eq u) es) ≤ count_by p es
          → count_by p (remove_entry (nat_eq u) (e ∷ es)) ≤ count_by p (e ∷ es)
      by true h rest = rw (h, counted) (omega arith)
      by false h rest =
          let left : count_by p (e ∷ remove_entry (nat_eq u) es)
          ≡ cond (p e) 1 0 + count_by p (remove_entry (nat_eq u) es) =
          count_by-cons p e (remove_entry (nat_eq u) es) in
          rw (h, counted, left) (omega (arith, rest))

  -- what is found under a key is what holds of each
  pub All-found : (P : ℕ × X → Type 0) (u : ℕ) (es : List (ℕ × X)) (x : X) → All P es → lookup (nat_eq u) es ≡ Some x
      → P (u, x)
  All-found P u [] x h found = absurd (cc)
  All-found P u (e ∷ es) x h found = by (nat_eq u e.0) refl found (λ f. All-found P u es x (All-tail P e es h) f)
    where
      by : (b : Bool) → nat_eq u e.0 ≡ b → cond b (Some e.1) (lookup (nat_eq u) es) ≡ Some x
          → (lookup (nat_eq u) es ≡ Some x → P (u, x)) → P (u, x)
      by true q f rest =
          let key : e.0 ≡ u = grind (arith, nat_tests, q) in
          let is : e.1 ≡ x = cc in
          subst P (λ i. (key i, is i)) (All-head P e es h)
      by false q f rest = rest f

  -- each but those under a key that goes
  pub All-removed : (P : ℕ × X → Type 0) (u : ℕ) (es : List (ℕ × X)) → All P es → All P (remove_entry (nat_eq u) es)
  All-removed P u [] h = h
  All-removed P u (e ∷ es) h = by (nat_eq u e.0) (All-removed P u es (All-tail P e es h))
    where
      by : (b : Bool) → All P (remove_entry (nat_eq u) es) → All P (cond b es (e ∷ remove_entry (nat_eq u) es))
      by true rest = All-tail P e es h
      by false rest = All-cons P e (remove_entry (nat_eq u) es) (All-head P e es h) rest

  -- where none passes a test, none is found
  pub find_none : (p : ℕ × X → Bool) (es : List (ℕ × X)) → count_by p es ≡ 0 → find p es ≡ None
  find_none p [] none = refl
  find_none p (e ∷ es) none = by (p e) refl (find_none p es)
    where
      counted : count_by p (e ∷ es) ≡ cond (p e) 1 0 + count_by p es
      counted = count_by-cons p e es

      by : (b : Bool) → p e ≡ b → (count_by p es ≡ 0 → find p es ≡ None) → find p (e ∷ es) ≡ None
      by true h rest = absurd (grind (arith, counted, none, h))
      by false h rest = rw h (rest (grind (arith, counted, none, h)))

  -- one that fails a test goes, and the first that passes is the same
  pub find_beside : (p : ℕ × X → Bool) (u : ℕ) (x : X) (es : List (ℕ × X)) → lookup (nat_eq u) es ≡ Some x
      → p (u, x) ≡ false → find p (remove_entry (nat_eq u) es) ≡ find p es
  find_beside p u x [] found fails = refl
  find_beside p u x (e ∷ es) found fails = by (nat_eq u e.0) refl (find_beside p u x es)
    where
      by : (b : Bool) → nat_eq u e.0 ≡ b → (lookup (nat_eq u) es ≡ Some x → p (u, x) ≡ false
          → find p (remove_entry (nat_eq u) es) ≡ find p es)
          → find p (remove_entry (nat_eq u) (e ∷ es)) ≡ find p (e ∷ es)
      by true h rest =
          let here : Some e.1 ≡ Some x = rw h at found in
          let is : e.1 ≡ x = cc in
          let key : u ≡ e.0 = grind (arith, nat_tests, h) in
          let fails_here : p e ≡ false = (λ i. p (sym key i, is i)) ∙ fails in
          rw (h, fails_here) refl
      by false h rest = rw h (ap (λ (o : Option (ℕ × X)). cond (p e) (Some e) o) (rest (rw h at found) fails))

  -- where one at most passes a test, it is the first that passes
  pub found_one : (p : ℕ × X → Bool) (u v : ℕ) (x : X) (es : List (ℕ × X)) → count_by p es ≤ 1
      → lookup (nat_eq u) es ≡ Some x → p (u, x) ≡ true → option_map (λ (e : ℕ × X). e.0) (find p es) ≡ Some v → v ≡ u
  found_one p u v x es few found passes first = elim (cases_eq v u) [
    | inl e ↦ e
    | inr ne ↦
        let total : count_by p (remove_entry (nat_eq u) es) + 1 ≡ count_by p es =
        subst (λ (b : Bool). count_by p (remove_entry (nat_eq u) es) + cond b 1 0 ≡ count_by p es) passes
        (count_left p u x es found) in
        let none : count_by p (remove_entry (nat_eq u) es) ≡ 0 = omega (arith, total, few) in
        absurd (cc (find_left p u v es first ne, find_none p (remove_entry (nat_eq u) es) none))
  ]
