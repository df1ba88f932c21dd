-- How many entries a map has once one is put or goes.
use Rattle.std.proofs.Common.{◌≡◌, ◌≢◌, ℕ, ◌+◌, ◌≤◌, Bool, true, false, not, cond, [], ◌∷◌, length, Some, None, T, refl, sym, ap, subst, ◌∙◌, arith, inl, inr}
use Rattle.std.specs.Prelude.{nat_eq}
use Rattle.std.specs.declared.cmp.Ordering.TheVariants.{Less, Equal, Greater}
use Rattle.std.specs.Ordering.{nat_cmp, is_eq}
use Rattle.std.specs.FinMap.{is_sorted}
use Rattle.std.specs.FinMap.Entries.{by_order}
use Rattle.std.proofs.lemmas.Bool.{cases_eq}
use Rattle.std.proofs.lemmas.Bool.Decides.{eqb_tells}
use Rattle.fuse_spec.specs.Values.Maps.{Map, get, put, remove}
use Rattle.fk_lookup_count.proofs.NumberMaps.{none-below, both_first, both_second}
use Rattle.fuse_spec.proofs.Tables.{cmp_same, tie_no, get_gone_here, get_gone_there}

module _ {V : Type 0} where
  pub length_put : (m : Map V) (k : ℕ) (v : V) → length (put m k v) ≤ length m + 1
  length_put [] k v = omega arith
  length_put (e ∷ m) k v =
      let rest = length_put m k v in
      elim (nat_cmp k e.0) as (λ r. length (by_order r ((k, v) ∷ e ∷ m) ((e.0, v) ∷ m) (e ∷ put m k v)) ≤ length
      (e ∷ m) + 1) [ Less ↦ omega arith | Equal ↦ omega arith | Greater ↦ omega arith ]

  pub length_kept : (m : Map V) (k : ℕ) → length (remove m k) ≤ length m
  length_kept [] k = omega arith
  length_kept (e ∷ m) k =
      let rest = length_kept m k in
      elim (nat_eq e.0 k) as (λ b. length (cond (not b) (e ∷ remove m k) (remove m k)) ≤ length
      (e ∷ m)) [ true ↦ omega arith | false ↦ omega arith ]

  pub gone_none : (m : Map V) (k q : ℕ) → get m q ≡ None → get (remove m k) q ≡ None
  gone_none m k q none =
      elim (cases_eq q k) [
        | inl e ↦ subst (λ (n : ℕ). get (remove m k) n ≡ None) (sym e)
            (get_gone_here m k)
        | inr ne ↦ get_gone_there m k q ne ∙ none
      ]

  pub length_gone : (m : Map V) (k : ℕ) → get m k ≢ None → length (remove m k) + 1 ≤ length m
  length_gone [] k there = absurd (there refl)
  length_gone (e ∷ m) k there =
      let kept = length_kept m k in
      elim (eqb_tells e.0 k) [
        | inl h ↦ rw h.0 (omega arith)
        | inr h ↦
            let rest = length_gone m k (λ none. there (ap (λ (b : Bool). cond b (Some e.1) (get m k))
            (tie_no k e.0 (λ q. h.1 (sym q))) ∙ none)) in
            rw h.0 (omega arith)
      ]

  -- where nothing is there nothing goes
  pub gone_absent : (m : Map V) (k : ℕ) → get m k ≡ None → remove m k ≡ m
  gone_absent [] k none = refl
  gone_absent (e ∷ m) k none =
      elim (eqb_tells e.0 k) [
        | inl h ↦
            let here : Some e.1 ≡ None = sym (ap (λ (n : ℕ). cond (is_eq (nat_cmp k n)) (Some e.1) (get m k)) h.1 ∙ ap
            (λ r. cond (is_eq r) (Some e.1) (get m k)) (cmp_same k)) ∙ none in
            cc
        | inr h ↦
            let rest = sym (ap (λ (b : Bool). cond b (Some e.1) (get m k)) (tie_no k e.0 (λ q. h.1 (sym q)))) ∙ none in
            rw h.0 (ap (λ (t : Map V). e ∷ t) (gone_absent m k rest))
      ]

  -- there is one entry of a key at most
  pub length_left : (m : Map V) (k : ℕ) → T (is_sorted nat_cmp m) → get m k ≢ None
      → length (remove m k) + 1 ≡ length m
  length_left [] k sorted there = absurd (there refl)
  length_left (e ∷ m) k sorted there =
      elim (eqb_tells e.0 k) [
        | inl h ↦
            let none = none-below k e.0 m (omega (arith, h.1)) (both_first _ _ sorted) in
            let kept = gone_absent m k none in
            rw (h.0, kept) (omega arith)
        | inr h ↦
            let rest = length_left m k (both_second _ _ sorted) (λ none. there (ap
            (λ (b : Bool). cond b (Some e.1) (get m k)) (tie_no k e.0 (λ q. h.1 (sym q))) ∙ none)) in
            rw h.0 (omega arith)
      ]
