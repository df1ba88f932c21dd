-- What a pin more and a pin fewer make of the counts.
use Rattle.std.proofs.Common.{◌≡◌, ◌≢◌, ◌⊎◌, ℕ, ◌+◌, ◌<◌, ◌^◌, Bool, true, false, cond, List, Some, None, is_some, refl, ap, ◌∙◌, arith, rules, nat_eq, nat_lt, inl, inr, unwrap_or}
use Rattle.std.specs.Map.{lookup}
use Rattle.std.proofs.lemmas.Bool.{cases_eq}
use Rattle.fuse_tables.specs.Tallies.{positive, one_less}
use Rattle.fk_opens.specs.Pins.{HavePins}

value_of : (n : ℕ) → unwrap_or (positive n) 0 ≡ n
value_of n = grind (arith, rules)

module _ {counts : List (ℕ × ℕ)} {pins : ℕ → ℕ} (have : HavePins counts pins) where
  -- a node that has few pins has a small count
  pub few_pins : (node : ℕ) → pins node < 2 ^ 63 → unwrap_or (lookup (nat_eq node) counts) 0 + 1 < 2 ^ 64
  few_pins node few =
      let is = ap (λ o. unwrap_or o 0) (have.counted node) ∙ value_of (pins node) in
      omega (arith, few, is)

  -- a node is counted exactly where it has a pin
  pub is_pinned_is : (node : ℕ) → is_some (lookup (nat_eq node) counts) ≡ nat_lt 0 (pins node)
  is_pinned_is node = ap is_some (have.counted node) ∙ by (nat_lt 0 (pins node))
    where
      by : (b : Bool) → is_some (cond b (Some (pins node)) None) ≡ b
      by true = refl
      by false = refl

  pub pinned : (more : List (ℕ × ℕ)) (node : ℕ) (now : ℕ → ℕ)
      → ((q : ℕ) → lookup (nat_eq q) more
      ≡ cond (nat_eq node q) (Some (unwrap_or (lookup (nat_eq node) counts) 0 + 1)) (lookup (nat_eq q) counts))
      → ((q : ℕ) → now q ≡ pins q + cond (nat_eq node q) 1 0) → HavePins more now
  pinned more node now counted sums = record { counted = λ q. counted q ∙ at q }
    where
      more_one : (n m : ℕ) → m ≡ n + 1 → Some (unwrap_or (positive n) 0 + 1) ≡ positive m
      more_one n m e = grind (arith, e, rules)

      at : (q : ℕ) → cond (nat_eq node q) (Some (unwrap_or (lookup (nat_eq node) counts) 0 + 1))
          (lookup (nat_eq q) counts) ≡ positive (now q)
      at q = by (nat_eq node q) refl (cases_eq node q) (sums q)
        where
          by : (b : Bool) → nat_eq node q ≡ b → (node ≡ q) ⊎ (node ≢ q) → now q ≡ pins q + cond b 1 0
              → cond b (Some (unwrap_or (lookup (nat_eq node) counts) 0 + 1)) (lookup (nat_eq q) counts)
              ≡ positive (now q)
          by true t (inl e) sum =
              ap (λ n. Some (unwrap_or (lookup (nat_eq n) counts) 0 + 1)) e
              ∙ ap (λ o. Some (unwrap_or o 0 + 1)) (have.counted q) ∙ more_one _ _ sum
          by true t (inr ne) sum = absurd (grind (arith, t, ne, rules))
          by false t c sum = have.counted q ∙ ap positive (omega (arith, sum))

  pub unpinned : (fewer : List (ℕ × ℕ)) (node : ℕ) (now : ℕ → ℕ)
      → ((q : ℕ) → lookup (nat_eq q) fewer
      ≡ cond (nat_eq node q) (one_less (lookup (nat_eq node) counts)) (lookup (nat_eq q) counts))
      → ((q : ℕ) → now q + cond (nat_eq node q) 1 0 ≡ pins q) → HavePins fewer now
  unpinned fewer node now counted sums = record { counted = λ q. counted q ∙ at q }
    where
      less_one : (n m : ℕ) → n + 1 ≡ m → one_less (positive m) ≡ positive n
      less_one n m e = grind (arith, e, rules)

      at : (q : ℕ) → cond (nat_eq node q) (one_less (lookup (nat_eq node) counts)) (lookup (nat_eq q) counts)
          ≡ positive (now q)
      at q = by (nat_eq node q) refl (cases_eq node q) (sums q)
        where
          by : (b : Bool) → nat_eq node q ≡ b → (node ≡ q) ⊎ (node ≢ q) → now q + cond b 1 0 ≡ pins q
              → cond b (one_less (lookup (nat_eq node) counts)) (lookup (nat_eq q) counts) ≡ positive (now q)
          by true t (inl e) sum =
              ap (λ n. one_less (lookup (nat_eq n) counts)) e ∙ ap one_less (have.counted q) ∙ less_one _ _ sum
          by true t (inr ne) sum = absurd (grind (arith, t, ne, rules))
          by false t c sum = have.counted q ∙ ap positive (omega (arith, sum))
