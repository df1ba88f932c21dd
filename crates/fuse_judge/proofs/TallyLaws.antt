-- Counts by key, as one key is counted once more or once less.
use Rattle.std.proofs.Common.{◌≡◌, ℕ, ◌+◌, ◌-◌, Bool, true, false, true≢false, not, nat_lt, cond, length, get_or, List, [], ◌∷◌, Option, Some, None, refl, sym, ◌∙◌, ap, arith, rules}
use Rattle.std.specs.Prelude.{count_by, unwrap_or}
use Rattle.std.specs.Cmp.{IsEquivalence}
use Rattle.std.specs.List.{position, position_or_len, swap_remove}
use Rattle.std.specs.Map.{lookup}
use Rattle.std.specs.BTreeMap.{is_at}
use Rattle.std.specs.declared.cmp.Ordering.{Ordering}
use Rattle.std.specs.Ordering.{eq_by_cmp}
use Rattle.std.proofs.lemmas.List.Sums.{sum_by-cons, sum_by-swap_remove}
use Rattle.std.proofs.lemmas.List.Quantifiers.{position-Some}
use Rattle.std.proofs.lemmas.Option.{none-some}
use Rattle.fuse_judge.specs.Tallies.{row_of, one_if}

module _ {K : Type 0} {eq : K → K → Bool} (laws : IsEquivalence eq) where
  -- the count of a key that is taken out of a list
  pub count_left : (xs : List K) (key : K) (place : ℕ) (d : K) → position (eq key) xs ≡ Some place
      → (q : K) → count_by (eq q) (swap_remove xs place d) + one_if (eq key q) ≡ count_by (eq q) xs
  count_left xs key place d at q =
      let found = position-Some (eq key) xs place d at in
      let same : eq q (get_or xs place d) ≡ eq key q
      = laws.symm q (get_or xs place d) ∙ sym (laws.congr key (get_or xs place d) q found.1) in
      ap (λ b. count_by (eq q) (swap_remove xs place d) + one_if b) (sym same)
      ∙ sum_by-swap_remove (λ x. cond (eq q x) 1 0) xs place d found.0

module _ {K : Type 0} (p : K → Bool) where
  passes_none : (xs : List K) → nat_lt (position_or_len p xs) (length xs) ≡ false → count_by p xs ≡ 0
  passes_none [] e = refl
  passes_none (x ∷ xs) e = sum_by-cons (λ y. cond (p y) 1 0) x xs ∙ by (passes_none xs) (p x) e
    where
      by : (nat_lt (position_or_len p xs) (length xs) ≡ false → count_by p xs ≡ 0) → (b : Bool) → nat_lt (cond (not b) (1 + position_or_len p xs) 0) (length (x ∷ xs)) ≡ false
          → cond b 1 0 + count_by p xs ≡ 0
      by rest true e = absurd (true≢false (grind (arith, rules)))
      by rest false e = omega (arith, rest (grind (arith, rules)))

  -- a key that stands nowhere in a list is counted there no time
  pub none_listed : (xs : List K) → position p xs ≡ None → count_by p xs ≡ 0
  none_listed xs e = passes_none xs (by (nat_lt (position_or_len p xs) (length xs)) e)
    where
      by : (b : Bool) → cond b (Some (position_or_len p xs)) None ≡ None → b ≡ false
      by true e = absurd (none-some _ (sym e))
      by false e = refl

module _ {K : Type 0} {eq : K → K → Bool} (cmp : K → K → Ordering) (laws : IsEquivalence eq)
    (ties : (x y : K) → eq x y ≡ eq_by_cmp cmp x y) where
  -- a row is found by its key's order
  by_order : (rows : List (K × ℕ)) (q : K) → lookup (eq q) rows ≡ lookup (is_at (cmp q)) rows
  by_order rows q = ap (λ test. lookup test rows) (λ i x. ties q x i)

  pub found_row : (rows : List (K × ℕ)) (q : K) → row_of eq rows q ≡ unwrap_or (lookup (is_at (cmp q)) rows) 0
  found_row rows q = ap (λ o. unwrap_or o 0) (by_order rows q)

  module _ (old new : List (K × ℕ)) (key : K) (w : Option ℕ)
      (updates : (q : K) → lookup (is_at (cmp q)) new ≡ cond (is_at (cmp key) q) w (lookup (is_at (cmp q)) old)) where
    updated : (q : K) → row_of eq new q ≡ cond (eq key q) (unwrap_or w 0) (row_of eq old q)
    updated q = ap (λ o. unwrap_or o 0) (by_order new q ∙ updates q) ∙ by (is_at (cmp key) q)
        ∙ ap (λ b. cond b (unwrap_or w 0) (row_of eq old q)) (sym (ties key q))
      where
        by : (b : Bool) → unwrap_or (cond b w (lookup (is_at (cmp q)) old)) 0 ≡ cond b (unwrap_or w 0) (row_of eq old q)
        by true = refl
        by false = sym (found_row old q)

    same_row : (q : K) → eq key q ≡ true → row_of eq old q ≡ row_of eq old key
    same_row q e = ap (λ test. unwrap_or (lookup test old) 0) (λ i x. sym (laws.congr key q x e) i)

    -- the row of a key that has one more
    pub raised : unwrap_or w 0 ≡ row_of eq old key + 1 → (q : K) → row_of eq new q ≡ row_of eq old q + one_if (eq key q)
    raised is q = updated q ∙ by (eq key q) refl
      where
        by : (b : Bool) → eq key q ≡ b → cond b (unwrap_or w 0) (row_of eq old q) ≡ row_of eq old q + one_if b
        by true e = is ∙ ap (λ n. n + 1) (sym (same_row q e))
        by false e = omega arith

    -- the row of a key that has one fewer
    pub lowered : unwrap_or w 0 ≡ row_of eq old key - 1 → (q : K) → row_of eq new q ≡ row_of eq old q - one_if (eq key q)
    lowered is q = updated q ∙ by (eq key q) refl
      where
        by : (b : Bool) → eq key q ≡ b → cond b (unwrap_or w 0) (row_of eq old q) ≡ row_of eq old q - one_if b
        by true e = is ∙ ap (λ n. n - 1) (sym (same_row q e))
        by false e = omega arith
