-- Lemmas on how often a number stands in a list, and on look-ups among entries.
use Rattle.std.proofs.Common.{◌≡◌, ℕ, zero, suc, ◌+◌, ◌≤◌, Bool, true, false, not, cond, List, [], ◌∷◌, ◌++◌, drop, filter, Option, Some, None, is_some, nat_eq, length, count_by, refl, ap, slice_get, option_map, arith}
use Rattle.std.proofs.lemmas.Bool.Decides.{nat_tests}
use Rattle.std.proofs.lemmas.List.Sums.{sum_by-cons, sum_by_push}
use Rattle.fuse_spec.specs.declared.Mark.{Mark}
use Rattle.fuse_spec.specs.declared.QueuedRequest.{QueuedRequest}
use Rattle.fuse_spec.specs.Kernel.QueueCalls.{set_mark}
use Rattle.std.specs.Map.{lookup, remove_entry, set_value}

module _ {X : Type 0} (p : X → Bool) where
  pub count_by-cons : (x : X) (xs : List X) → count_by p (x ∷ xs) ≡ cond (p x) 1 0 + count_by p xs
  count_by-cons x xs = sum_by-cons (λ y. cond (p y) 1 0) x xs

  -- one more element
  pub count_by-push : (xs : List X) (x : X) → count_by p (xs ++ x ∷ []) ≡ count_by p xs + cond (p x) 1 0
  count_by-push xs x = sum_by_push (λ y. cond (p y) 1 0) xs x

  -- without the first
  pub count_by-drop_first : (xs : List X) → count_by p (drop 1 xs) ≤ count_by p xs
  count_by-drop_first [] = omega arith
  count_by-drop_first (y ∷ xs) = rw drop_none (omega (arith, count_by-cons y xs))
    where
      drop_none : drop 1 (y ∷ xs) ≡ xs
      drop_none = refl

module _ (v u : ℕ) where
  -- without one number
  pub count_by-without : (xs : List ℕ) → count_by (nat_eq v) (filter (λ i. not (nat_eq u i)) xs) ≤ cond (nat_eq v u) 0
      (count_by (nat_eq v) xs)
  count_by-without [] = grind (arith, nat_tests)
  count_by-without (x ∷ xs) =
      let kept = count_by-cons (nat_eq v) x (filter (λ i. not (nat_eq u i)) xs) in
      let was = count_by-cons (nat_eq v) x xs in
      let rest = count_by-without xs in
      grind (arith, nat_tests, kept, was, rest)

module _ {X : Type 0} where
  -- how often a number is a key
  abbrev pub key_count : ℕ → List (ℕ × X) → ℕ
  key_count u es = count_by (λ e. nat_eq u e.0) es

  pub key_count-set_value : (u : ℕ) (test : ℕ → Bool) (es : List (ℕ × X)) (x : X)
      → key_count u (set_value test es x) ≡ key_count u es
  key_count-set_value u test [] x = refl
  key_count-set_value u test (e ∷ es) x =
      let p : ℕ × X → Bool = λ d. nat_eq u d.0 in
      let here = count_by-cons p (e.0, x) es in
      let there = count_by-cons p e (set_value test es x) in
      let was = count_by-cons p e es in
      let rest = key_count-set_value u test es x in
      grind (arith, here, there, was, rest)

  pub key_count-remove_entry : (u : ℕ) (test : ℕ → Bool) (es : List (ℕ × X))
      → key_count u (remove_entry test es) ≤ key_count u es
  key_count-remove_entry u test [] = grind arith
  key_count-remove_entry u test (e ∷ es) =
      let p : ℕ × X → Bool = λ d. nat_eq u d.0 in
      let there = count_by-cons p e (remove_entry test es) in
      let was = count_by-cons p e es in
      let rest = key_count-remove_entry u test es in
      grind (arith, there, was, rest)

  -- a number that is no key is not found
  pub lookup-no_key : (u : ℕ) (es : List (ℕ × X)) → key_count u es ≡ 0 → lookup (nat_eq u) es ≡ None
  lookup-no_key u [] none = refl
  lookup-no_key u (e ∷ es) none =
      let p : ℕ × X → Bool = λ d. nat_eq u d.0 in
      let was = count_by-cons p e es in
      grind (arith, none, was, lookup-no_key u es)

  -- what is found is found among more
  pub lookup-push : (u : ℕ) (es : List (ℕ × X)) (e : ℕ × X) (x : X) → lookup (nat_eq u) es ≡ Some x
      → lookup (nat_eq u) (es ++ e ∷ []) ≡ Some x
  lookup-push u [] e x found = cc
  lookup-push u (y ∷ es) e x found = grind (arith, found, lookup-push u es e x)

  -- another number is found as before
  pub lookup-remove_entry_other : (v u : ℕ) (es : List (ℕ × X)) → nat_eq v u ≡ false
      → lookup (nat_eq v) (remove_entry (nat_eq u) es) ≡ lookup (nat_eq v) es
  lookup-remove_entry_other v u [] apart = refl
  lookup-remove_entry_other v u (e ∷ es) apart = grind (arith, nat_tests, apart, lookup-remove_entry_other v u es)

  pub lookup-set_value_other : (v u : ℕ) (es : List (ℕ × X)) (x : X) → nat_eq v u ≡ false
      → lookup (nat_eq v) (set_value (nat_eq u) es x) ≡ lookup (nat_eq v) es
  lookup-set_value_other v u [] x apart = refl
  lookup-set_value_other v u (e ∷ es) x apart = grind (arith, nat_tests, apart, lookup-set_value_other v u es x)

  pub lookup-set_value_same : (u : ℕ) (es : List (ℕ × X)) (x y : X) → lookup (nat_eq u) es ≡ Some y
      → lookup (nat_eq u) (set_value (nat_eq u) es x) ≡ Some x
  lookup-set_value_same u [] x y found = cc
  lookup-set_value_same u (e ∷ es) x y found = grind (arith, found, lookup-set_value_same u es x y)

  -- an entry that is found goes
  pub length-remove_entry : (u : ℕ) (es : List (ℕ × X)) (x : X) → lookup (nat_eq u) es ≡ Some x
      → length (remove_entry (nat_eq u) es) + 1 ≡ length es
  length-remove_entry u [] x found = cc
  length-remove_entry u (e ∷ es) x found = grind (arith, found, length-remove_entry u es x)

  -- the same by the look-up's answer alone
  pub length-remove_key : (u : ℕ) (es : List (ℕ × X)) → is_some (lookup (nat_eq u) es) ≡ true
      → length (remove_entry (nat_eq u) es) + 1 ≡ length es
  length-remove_key u es there = by (lookup (nat_eq u) es) refl
    where
      by : (o : Option X) → lookup (nat_eq u) es ≡ o → length (remove_entry (nat_eq u) es) + 1 ≡ length es
      by None e = absurd (cc (ap is_some e, there))
      by (Some x) e = length-remove_entry u es x e

  -- numbers that stand in a list once at most, and only if they are keys
  abbrev pub StandOnce : List ℕ → List (ℕ × X) → Type 0
  StandOnce xs es = (u : ℕ) → count_by (nat_eq u) xs ≤ cond (is_some (lookup (nat_eq u) es)) 1 0

  -- the first is a key, and the others stand once among the other keys
  pub is_key-first : (x : ℕ) (xs : List ℕ) (es : List (ℕ × X)) → StandOnce (x ∷ xs) es
      → is_some (lookup (nat_eq x) es) ≡ true
  is_key-first x xs es once =
      let first = once x in
      let counted = count_by-cons (nat_eq x) x xs in
      grind (arith, nat_tests, first, counted)

  pub StandOnce-others : (x : ℕ) (xs : List ℕ) (es : List (ℕ × X)) → StandOnce (x ∷ xs) es
      → StandOnce xs (remove_entry (nat_eq x) es)
  StandOnce-others x xs es once u = by (nat_eq u x) refl
    where
      by : (b : Bool) → nat_eq u x ≡ b → count_by (nat_eq u) xs ≤ cond
          (is_some (lookup (nat_eq u) (remove_entry (nat_eq x) es))) 1 0
      by true e =
          let first = once u in
          let counted = count_by-cons (nat_eq u) x xs in
          grind (arith, e, first, counted)
      by false e =
          let first = once u in
          let counted = count_by-cons (nat_eq u) x xs in
          let same = lookup-remove_entry_other u x es e in
          grind (arith, e, first, counted, same)

  -- such numbers are no more than the keys
  pub length-le-keys : (xs : List ℕ) (es : List (ℕ × X)) → StandOnce xs es → length xs ≤ length es
  length-le-keys [] es once = omega arith
  length-le-keys (x ∷ xs) es once =
      let rest = length-le-keys xs (remove_entry (nat_eq x) es) (StandOnce-others x xs es once) in
      let gone = length-remove_key x es (is_key-first x xs es once) in
      omega arith

module _ {W : Type 0} where
  -- a mark is set as a value is
  pub set_value-set_mark : (u : ℕ) (es : List (ℕ × QueuedRequest W)) (r : QueuedRequest W) (m : Mark)
      → lookup (nat_eq u) es ≡ Some r → set_value (nat_eq u) es (record { mark = m; kept = r.kept }) ≡ set_mark u es m
  set_value-set_mark u [] r m found = refl
  set_value-set_mark u (e ∷ es) r m found = by (nat_eq u e.0) refl (λ f. set_value-set_mark u es r m f)
    where
      by : (b : Bool) → nat_eq u e.0 ≡ b → (lookup (nat_eq u) es ≡ Some r
          → set_value (nat_eq u) es (record { mark = m; kept = r.kept }) ≡ set_mark u es m)
          → set_value (nat_eq u) (e ∷ es) (record { mark = m; kept = r.kept }) ≡ set_mark u (e ∷ es) m
      by true h rest =
          let found_here : Some e.1 ≡ Some r = rw h at found in
          let same : e.1 ≡ r = cc in
          rw (h, same) refl
      by false h rest =
          let found_later : lookup (nat_eq u) es ≡ Some r = rw h at found in
          rw h (ap (λ (l : List (ℕ × QueuedRequest W)). e ∷ l) (rest found_later))

  pub set_mark-absent : (u : ℕ) (es : List (ℕ × QueuedRequest W)) (m : Mark) → lookup (nat_eq u) es ≡ None
      → set_mark u es m ≡ es
  set_mark-absent u [] m none = refl
  set_mark-absent u (e ∷ es) m none = grind (arith, none, set_mark-absent u es m)

  pub key_count-set_mark : (v u : ℕ) (es : List (ℕ × QueuedRequest W)) (m : Mark)
      → key_count v (set_mark u es m) ≡ key_count v es
  key_count-set_mark v u [] m = refl
  key_count-set_mark v u (e ∷ es) m =
      let p : ℕ × QueuedRequest W → Bool = λ d. nat_eq v d.0 in
      let here = count_by-cons p (e.0, record { mark = m; kept = e.1.kept }) es in
      let there = count_by-cons p e (set_mark u es m) in
      let was = count_by-cons p e es in
      let rest = key_count-set_mark v u es m in
      grind (arith, here, there, was, rest)

  pub length-set_mark : (u : ℕ) (es : List (ℕ × QueuedRequest W)) (m : Mark) → length (set_mark u es m) ≡ length es
  length-set_mark u [] m = refl
  length-set_mark u (e ∷ es) m = grind (arith, length-set_mark u es m)

  pub lookup-set_mark_other : (v u : ℕ) (es : List (ℕ × QueuedRequest W)) (m : Mark) → nat_eq v u ≡ false
      → lookup (nat_eq v) (set_mark u es m) ≡ lookup (nat_eq v) es
  lookup-set_mark_other v u [] m apart = refl
  lookup-set_mark_other v u (e ∷ es) m apart = grind (arith, nat_tests, apart, lookup-set_mark_other v u es m)

  pub lookup-set_mark_same : (u : ℕ) (es : List (ℕ × QueuedRequest W)) (m old : Mark)
      → option_map (λ r. r.mark) (lookup (nat_eq u) es) ≡ Some old
      → option_map (λ r. r.mark) (lookup (nat_eq u) (set_mark u es m)) ≡ Some m
  lookup-set_mark_same u [] m old found = cc
  lookup-set_mark_same u (e ∷ es) m old found = grind (arith, found, lookup-set_mark_same u es m old)

  -- a request that is found at a place is found by its number, where no number has two
  pub key_count-found : (p : ℕ × QueuedRequest W → Bool) (es : List (ℕ × QueuedRequest W)) (k : ℕ)
      (e : ℕ × QueuedRequest W) → slice_get (filter p es) k ≡ Some e → 1 ≤ key_count e.0 es
  key_count-found p [] k e found = cc
  key_count-found p (x ∷ es) k e found = by (p x) refl (λ j f. key_count-found p es j e f)
    where
      counted : key_count e.0 (x ∷ es) ≡ cond (nat_eq e.0 x.0) 1 0 + key_count e.0 es
      counted = count_by-cons (λ (d : ℕ × QueuedRequest W). nat_eq e.0 d.0) x es

      at : (j : ℕ) → slice_get (x ∷ filter p es) j ≡ Some e
          → ((i : ℕ) → slice_get (filter p es) i ≡ Some e → 1 ≤ key_count e.0 es) → 1 ≤ key_count e.0 (x ∷ es)
      at zero f rest =
          let same : x ≡ e = cc in
          grind (arith, nat_tests, counted, same)
      at (suc j) f rest = rw counted (omega (arith, rest j f))

      by : (b : Bool) → p x ≡ b → ((i : ℕ) → slice_get (filter p es) i ≡ Some e → 1 ≤ key_count e.0 es)
          → 1 ≤ key_count e.0 (x ∷ es)
      by true h rest = at k (rw h at found) rest
      by false h rest = rw counted (omega (arith, rest k (rw h at found)))

  pub lookup-found : (p : ℕ × QueuedRequest W → Bool) (es : List (ℕ × QueuedRequest W)) (k : ℕ)
      (e : ℕ × QueuedRequest W) → slice_get (filter p es) k ≡ Some e → key_count e.0 es ≤ 1
      → lookup (nat_eq e.0) es ≡ Some e.1
  lookup-found p [] k e found once = cc
  lookup-found p (x ∷ es) k e found once = by (p x) refl (λ j f few. lookup-found p es j e f few)
    where
      counted : key_count e.0 (x ∷ es) ≡ cond (nat_eq e.0 x.0) 1 0 + key_count e.0 es
      counted = count_by-cons (λ (d : ℕ × QueuedRequest W). nat_eq e.0 d.0) x es

      later : (j : ℕ) → slice_get (filter p es) j ≡ Some e → (key_count e.0 es ≤ 1 → lookup (nat_eq e.0) es ≡ Some e.1)
          → lookup (nat_eq e.0) (x ∷ es) ≡ Some e.1
      later j f rest =
          let there = key_count-found p es j e f in
          let apart : nat_eq e.0 x.0 ≡ false = grind (arith, counted, once, there) in
          rw apart (rest (grind (arith, counted, once, apart)))

      at : (j : ℕ) → slice_get (x ∷ filter p es) j ≡ Some e
          → ((i : ℕ) → slice_get (filter p es) i ≡ Some e → key_count e.0 es ≤ 1 → lookup (nat_eq e.0) es ≡ Some e.1)
          → lookup (nat_eq e.0) (x ∷ es) ≡ Some e.1
      at zero f rest =
          let same : x ≡ e = cc in
          grind (arith, nat_tests, same)
      at (suc j) f rest = later j f (rest j f)

      by : (b : Bool) → p x ≡ b → ((i : ℕ) → slice_get (filter p es) i ≡ Some e → key_count e.0 es ≤ 1
          → lookup (nat_eq e.0) es ≡ Some e.1) → lookup (nat_eq e.0) (x ∷ es) ≡ Some e.1
      by true h rest = at k (rw h at found) rest
      by false h rest = later k (rw h at found) (rest k (rw h at found))
