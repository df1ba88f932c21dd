-- Rows by cookie, kept in a map in rising cookie.
use Rattle.std.proofs.Common.{◌≡◌, ℕ, ◌<◌, Bool, true, false, not, cond, List, [], ◌∷◌, ◌++◌, filter, refl, sym, ap, ◌∙◌, arith, nat_eq, Less, Greater, Option, None, Some}
use Rattle.std.specs.Ordering.{nat_cmp, is_eq}
use Rattle.std.specs.Cmp.{ranked, nat_cmp_is}
use Rattle.std.specs.Option.{option_to_list}
use Rattle.std.specs.Map.{remove_entry, keys_of}
use Rattle.std.specs.List.{AllByRecursion}
use Rattle.std.specs.List.Sorted.{IsStrictlySortedBy}
use Rattle.std.specs.BTreeMap.{insert_entry}
use Rattle.std.proofs.lemmas.Grind.{common_steps}
use Rattle.std.proofs.lemmas.List.Elements.{filter-append}
use Rattle.fuse_spec.specs.Values.Maps.{get, put, remove}
use Rattle.fs_tree.specs.Stored.{AreKeysBelow}
use Rattle.fs_tree.proofs.FileRows.{is_eq-nat_cmp}

other_key : (a b : ℕ) → a < b → nat_eq b a ≡ false
other_key a b lower = grind (arith, common_steps)

same_key : (a b : ℕ) → nat_eq a b ≡ true → a ≡ b
same_key a b e = grind (arith, common_steps, e)

swapped : (a b : ℕ) (c : Bool) → nat_eq a b ≡ c → nat_eq b a ≡ c
swapped a b true e = grind (arith, common_steps, e)
swapped a b false e = grind (arith, common_steps, e)

module _ {V : Type 0} where
  -- a key above all others is put last
  pub put-last : (es : List (ℕ × V)) (key : ℕ) (v : V) → AreKeysBelow key es
      → insert_entry nat_cmp es key v ≡ es ++ (key, v) ∷ []
  put-last [] key v below = refl
  put-last (e ∷ es) key v below =
      let higher : e.0 < key = below.0 in
      rw (← nat_cmp_is key e.0 Greater (omega arith)) (ap (λ l. e ∷ l) (put-last es key v below.1))

  -- the same where the first row may stand outside the map
  pub put-last-after : (first : Option (ℕ × V)) (es : List (ℕ × V)) (key : ℕ) (v : V)
      → AreKeysBelow key (option_to_list first ++ es)
      → option_to_list first ++ insert_entry nat_cmp es key v ≡ (option_to_list first ++ es) ++ (key, v) ∷ []
  put-last-after None es key v below = put-last es key v below
  put-last-after (Some e) es key v below = ap (λ l. e ∷ l) (put-last es key v below.1)

  -- the same in rows
  pub put-behind : (es : List (ℕ × V)) (key : ℕ) (v : V) → AreKeysBelow key es → put es key v ≡ es ++ (key, v) ∷ []
  put-behind [] key v below = refl
  put-behind (e ∷ es) key v below =
      let higher : e.0 < key = below.0 in
      rw (← nat_cmp_is key e.0 Greater (omega arith)) (ap (λ l. e ∷ l) (put-behind es key v below.1))

  -- where a key has no row, it takes none away
  pub remove-absent : (es : List (ℕ × V)) (key : ℕ) → get es key ≡ None → remove es key ≡ es
  remove-absent [] key none = refl
  remove-absent (e ∷ es) key none = by (nat_eq key e.0) refl (rw (is_eq-nat_cmp key e.0) at none)
      (remove-absent es key)
    where
      by : (b : Bool) → nat_eq key e.0 ≡ b → cond b (Some e.1) (get es key) ≡ None
          → (get es key ≡ None → remove es key ≡ es) → remove (e ∷ es) key ≡ e ∷ es
      by true same none rest = absurd (cc)
      by false other none rest = rw (swapped key e.0 false other) (ap (λ l. e ∷ l) (rest none))

  -- where all keys are above one, it is not among them
  kept-above : (key : ℕ) (es : List (ℕ × V)) → AllByRecursion (λ y. nat_cmp key y ≡ Less) (keys_of es)
      → filter (λ e. not (nat_eq e.0 key)) es ≡ es
  kept-above key [] above = refl
  kept-above key (e ∷ es) above =
      let lower : key < e.0 = ranked key e.0 Less (sym above.0) in
      rw (other_key key e.0 lower) (ap (λ l. e ∷ l) (kept-above key es above.1))

  pub removed-key : (key : ℕ) (es : List (ℕ × V)) → IsStrictlySortedBy nat_cmp (keys_of es)
      → remove_entry (λ k. is_eq (nat_cmp key k)) es ≡ filter (λ e. not (nat_eq e.0 key)) es
  unfolding IsStrictlySortedBy
  removed-key key [] sorted = refl
  removed-key key (e ∷ es) sorted = rw (is_eq-nat_cmp key e.0)
      (by (nat_eq key e.0) refl (removed-key key es sorted.1) sorted.0)
    where
      by : (b : Bool) → nat_eq key e.0 ≡ b → remove_entry (λ k. is_eq (nat_cmp key k)) es
          ≡ filter (λ e. not (nat_eq e.0 key)) es
          → AllByRecursion (λ y. nat_cmp e.0 y ≡ Less) (keys_of es)
          → cond b es (e ∷ remove_entry (λ k. is_eq (nat_cmp key k)) es) ≡ filter (λ e. not (nat_eq e.0 key)) (e ∷ es)
      by true same rest above =
          let one : e.0 ≡ key = sym (same_key key e.0 same) in
          rw (swapped key e.0 true same) (sym (ap (λ k. filter (λ e. not (nat_eq e.0 k)) es)
          (sym one) ∙ kept-above e.0 es above))
      by false other rest above = rw (swapped key e.0 false other) (ap (λ l. e ∷ l) rest)

  -- the same where the first row may stand outside the map
  pub removed-after : (key : ℕ) (first left : Option (ℕ × V)) (es : List (ℕ × V))
      → option_to_list left ≡ filter (λ e. not (nat_eq e.0 key)) (option_to_list first)
      → IsStrictlySortedBy nat_cmp (keys_of es)
      → option_to_list left ++ remove_entry (λ k. is_eq (nat_cmp key k)) es
      ≡ filter (λ e. not (nat_eq e.0 key)) (option_to_list first ++ es)
  removed-after key first left es is sorted = rw (is, removed-key key es sorted)
      (sym (filter-append (λ e. not (nat_eq e.0 key)) (option_to_list first) es))

  -- a key put last that goes again
  pub put-undone : (es : List (ℕ × V)) (key : ℕ) (v : V) → AreKeysBelow key es
      → filter (λ e. not (nat_eq e.0 key)) (es ++ (key, v) ∷ []) ≡ es
  put-undone [] key v below = let one : nat_eq key key ≡ true = grind (arith, common_steps) in rw one refl
  put-undone (e ∷ es) key v below =
      let other : nat_eq e.0 key ≡ false = swapped key e.0 false (other_key e.0 key below.0) in
      rw other (ap (λ l. e ∷ l) (put-undone es key v below.1))
