-- Names that are shown as they are.
use Rattle.std.proofs.Common.{◌≡◌, ℕ, List, [], ◌∷◌, map, refl}
use Rattle.std.specs.Prelude.{All}
use Rattle.std.proofs.lemmas.List.Elements.{All-head, All-tail}

-- a list whose elements a function keeps
pub map_kept : (f : ℕ → ℕ) (xs : List ℕ) → All (λ x. f x ≡ x) xs → map f xs ≡ xs
map_kept f [] h = refl
map_kept f (x ∷ xs) h =
    rw (All-head (λ y. f y ≡ y) x xs h, map_kept f xs (All-tail (λ y. f y ≡ y) x xs h)) refl
