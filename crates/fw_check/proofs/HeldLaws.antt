-- Counts by key, as one key gets another count.
use Rattle.std.proofs.Common.{◌≡◌, ℕ, ◌+◌, ◌-◌, ◌<◌, ◌≤◌, Bool, true, false, true≢false, cond, List, Option, Some, None, length, refl, sym, ◌∙◌, ap, subst, arith, nat_lt, rules}
use Rattle.std.specs.Prelude.{unwrap_or, is_some}
use Rattle.std.specs.Cmp.{IsEquivalence}
use Rattle.std.specs.Map.{lookup}
use Rattle.std.specs.BTreeMap.{is_at}
use Rattle.std.specs.declared.cmp.Ordering.{Ordering}
use Rattle.std.specs.Ordering.{eq_by_cmp}
use Rattle.std.specs.List.{IsDistinct}
use Rattle.std.specs.Set.{distinct_count, is_member}
use Rattle.std.specs.Map.{keys_of}
use Rattle.std.specs.List.Sorted.{IsStrictlySortedBy}
use Rattle.std.proofs.lemmas.Map.Keys.{IsDistinct-from_sorted}
use Rattle.std.proofs.lemmas.Map.Made.{is_some-lookup, length-from_keys}
use Rattle.std.proofs.lemmas.Map.Entries.{length-keys_of}
use Rattle.fw_check.specs.Held.{Holds, any_of}

or_none : (n : ℕ) (b : Bool) → nat_lt 0 n ≡ b → unwrap_or (cond b (Some n) None) 0 ≡ n
or_none n true e = refl
or_none n false e = grind (arith, rules)

-- a count is what its row has, or none
pub count_in_row : (n : ℕ) → unwrap_or (any_of n) 0 ≡ n
count_in_row n = or_none n (nat_lt 0 n) refl

-- one more is some
pub plus_one : (n : ℕ) → Some (n + 1) ≡ any_of (n + 1)
plus_one n = by (nat_lt 0 (n + 1)) refl
  where
    by : (b : Bool) → nat_lt 0 (n + 1) ≡ b → Some (n + 1) ≡ cond b (Some (n + 1)) None
    by true e = refl
    by false e = absurd (true≢false (grind (arith, rules)))

-- some are left, or none
pub less_some : (n less : ℕ) → less < n → Some (n - less) ≡ any_of (n - less)
less_some n less some = by (nat_lt 0 (n - less)) refl
  where
    by : (b : Bool) → nat_lt 0 (n - less) ≡ b → Some (n - less) ≡ cond b (Some (n - less)) None
    by true e = refl
    by false e = absurd (true≢false (grind (arith, rules)))

pub less_none : (n less : ℕ) → n ≤ less → None ≡ any_of (n - less)
less_none n less all = let none : n - less ≡ 0 = omega (arith, all) in ap any_of (sym none)

module _ {K : Type 0} {eq : K → K → Bool} (cmp : K → K → Ordering) (laws : IsEquivalence eq)
    (ties : (x y : K) → eq x y ≡ eq_by_cmp cmp x y) where
  -- a row is found by its key's order
  pub by_order : (rows : List (K × ℕ)) (q : K) → lookup (eq q) rows ≡ lookup (is_at (cmp q)) rows
  by_order rows q = ap (λ test. lookup test rows) (λ i x. ties q x i)

  module _ (old new : List (K × ℕ)) (count later : K → ℕ) (key : K) (w : Option ℕ) (held : Holds eq old count)
      (updates : (q : K) → lookup (is_at (cmp q)) new ≡ cond (is_at (cmp key) q) w (lookup (is_at (cmp q)) old)) where
    -- keys that are equal have one count
    same_count : (q : K) → eq key q ≡ true → count key ≡ count q
    same_count q e = sym (count_in_row (count key)) ∙ ap (λ o. unwrap_or o 0)
        (sym (held key) ∙ ap (λ test. lookup test old) (λ i x. laws.congr key q x e i) ∙ held q)
        ∙ count_in_row (count q)

    -- the key's row has the count that the key has now
    pub updated : (f : ℕ → ℕ) → w ≡ any_of (f (count key))
        → ((q : K) → later q ≡ cond (eq key q) (f (count q)) (count q)) → Holds eq new later
    updated f is now q = by_order new q ∙ updates q ∙ ap (λ b. cond b w (lookup (is_at (cmp q)) old)) (sym (ties key q))
        ∙ ap (λ o. cond (eq key q) w o) (sym (by_order old q) ∙ held q) ∙ by (eq key q) refl
        ∙ ap any_of (sym (now q))
      where
        by : (b : Bool) → eq key q ≡ b → cond b w (any_of (count q)) ≡ any_of (cond b (f (count q)) (count q))
        by true e = is ∙ ap (λ n. any_of (f n)) (same_count q e)
        by false e = refl

  -- what a row says of its key
  pub row_is : (rows : List (K × ℕ)) (key : K) (n : ℕ) → lookup (is_at (cmp key)) rows ≡ Some n
      → unwrap_or (lookup (eq key) rows) 0 ≡ n
  row_is rows key n is = ap (λ o. unwrap_or o 0) (by_order rows key ∙ is)

  pub found : (rows : List (K × ℕ)) (count : K → ℕ) (key : K) {n : ℕ} → Holds eq rows count
      → lookup (is_at (cmp key)) rows ≡ Some n → count key ≡ n
  found rows count key {n} held is =
      sym (count_in_row (count key)) ∙ ap (λ o. unwrap_or o 0) (sym (held key)) ∙ row_is rows key n is

  pub found_none : (rows : List (K × ℕ)) (count : K → ℕ) (key : K) → Holds eq rows count
      → lookup (is_at (cmp key)) rows ≡ None → count key ≡ 0
  found_none rows count key held is = sym (count_in_row (count key))
      ∙ ap (λ o. unwrap_or o 0) (sym (held key) ∙ by_order rows key ∙ is)

  -- as many rows as there are keys that have any
  pub as_many : (rows : List (K × ℕ)) (keys : List K) → IsStrictlySortedBy cmp (keys_of rows)
      → ((q : K) → is_some (lookup (eq q) rows) ≡ is_member eq keys q) → length rows ≡ distinct_count eq keys
  as_many rows keys ordered members = sym (length-keys_of rows) ∙ length-from_keys laws (keys_of rows) keys
      (subst (λ (e : K → K → Bool). IsDistinct e (keys_of rows)) (λ i x y. sym (ties x y) i)
      (IsDistinct-from_sorted cmp (keys_of rows) ordered))
      (λ q. sym (is_some-lookup (eq q) rows) ∙ members q)
