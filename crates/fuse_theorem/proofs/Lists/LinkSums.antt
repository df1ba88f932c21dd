-- Sums over lists, as an element goes.
use Rattle.std.proofs.Common.{◌≡◌, ℕ, ◌+◌, ◌≤◌, ◌<◌, List, [], ◌∷◌, Some, None, ◌⊎◌, inl, inr, slice_get, get_or, length, refl, subst, arith, All}
use Rattle.std.specs.Prelude.{sum_by}
use Rattle.std.specs.List.{remove}
use Rattle.std.proofs.lemmas.List.Elements.{All-head, All-tail}
use Rattle.std.proofs.lemmas.List.Sums.{sum_by-cons, sum_by-remove}
use Rattle.std.proofs.lemmas.Option.{slice_get_cases, get_or_from_slice_get}

module _ {X : Type 0} (f : X → ℕ) where
  -- the sum without the element at a place
  pub sum_removed : (xs : List X) (k : ℕ) (x : X) → slice_get xs k ≡ Some x → sum_by f (remove xs k) + f x ≡ sum_by f xs
  sum_removed xs k x there = subst (λ (y : X). sum_by f (remove xs k) + f y ≡ sum_by f xs)
      (get_or_from_slice_get xs k x x there) (sum_by-remove f xs k x (inside (slice_get_cases xs k)))
    where
      inside : (slice_get xs k ≡ slice_get xs k) × (((y : X) × (k < length xs) × (slice_get xs k ≡ Some y)
          × (get_or xs k y ≡ y)) ⊎ ((length xs ≤ k) × (slice_get xs k ≡ None))) → k < length xs
      inside (e, inl h) = h.1
      inside (e, inr h) = absurd (cc (h.1, there))

  -- a term is at most the sum
  pub term_le : (xs : List X) (k : ℕ) (x : X) → slice_get xs k ≡ Some x → f x ≤ sum_by f xs
  term_le xs k x there = let whole = sum_removed xs k x there in omega (arith, whole)

-- Sums of equal terms are equal.
pub sum_same : {X : Type 0} (f g : X → ℕ) (xs : List X) → All (λ x. f x ≡ g x) xs → sum_by f xs ≡ sum_by g xs
sum_same f g [] h = refl
sum_same f g (x ∷ xs) h =
    let first = All-head (λ y. f y ≡ g y) x xs h in
    let rest = sum_same f g xs (All-tail (λ y. f y ≡ g y) x xs h) in
    let left = sum_by-cons f x xs in
    let right = sum_by-cons g x xs in
    omega (arith, first, rest, left, right)
