-- What is true of the request under a number, and of each entry that has the number.
use Rattle.std.proofs.Common.{◌≡◌, ℕ, ◌+◌, ◌≤◌, Bool, true, false, true≢false, cond, List, [], ◌∷◌, Some, nat_eq, refl, ap, sym, ◌∙◌, arith, All}
use Rattle.std.specs.Map.{lookup}
use Rattle.std.proofs.lemmas.List.Elements.{All-nil, All-cons}
use Rattle.fuse_spec.proofs.QueueCounts.{key_count, count_by-cons}
use Rattle.fuse_theorem.proofs.Calls.Finding.{same_is, none_passes}

abbrev one_if : Bool → ℕ
one_if b = cond b 1 0

-- A number that stands once at most: what is true of what stands under it is true of each entry that has it.
pub of_entries : {X : Type 0} (P : X → Type 0) (u : ℕ) (es : List (ℕ × X)) → key_count u es ≤ 1
    → ((x : X) → lookup (nat_eq u) es ≡ Some x → P x) → All (λ (e : ℕ × X). e.0 ≡ u → P e.1) es
of_entries {X = X} P u [] once f = All-nil (λ (e : ℕ × X). e.0 ≡ u → P e.1)
of_entries {X = X} P u (e ∷ es) once f = by (nat_eq u e.0) refl (λ few g. of_entries P u es few g)
  where
    counted : key_count u (e ∷ es) ≡ cond (nat_eq u e.0) 1 0 + key_count u es
    counted = count_by-cons (λ (d : ℕ × X). nat_eq u d.0) e es

    apart : (n : ℕ) → nat_eq u n ≡ false → n ≡ u → ⊥
    apart n fails same = true≢false (sym (same_is u) ∙ ap (nat_eq u) (sym same) ∙ fails)

    by : (b : Bool) → nat_eq u e.0 ≡ b → (key_count u es ≤ 1 → ((x : X) → lookup (nat_eq u) es ≡ Some x → P x)
        → All (λ (d : ℕ × X). d.0 ≡ u → P d.1) es) → All (λ (d : ℕ × X). d.0 ≡ u → P d.1) (e ∷ es)
    by true is others =
        let here = ap one_if is in
        let none = none_passes (λ (d : ℕ × X). nat_eq u d.0) es (omega (arith, counted, here, once)) in
        All-cons (λ (d : ℕ × X). d.0 ≡ u → P d.1) e es (λ same. f e.1 (rw is refl))
        (λ i d lt same. absurd (apart _ (none i d lt) same))
    by false is others =
        let few = ap one_if is in
        let rest = others (omega (arith, counted, few, once)) (λ x found. f x (rw is found)) in
        All-cons (λ (d : ℕ × X). d.0 ≡ u → P d.1) e es (λ same. absurd (apart e.0 is same)) rest
