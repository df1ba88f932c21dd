-- Names that are the same.
use Rattle.std.proofs.Common.{◌≡◌, ℕ, List, [], ◌∷◌, refl, nat_eq, arith}
use Rattle.std.proofs.lemmas.Grind.{common_steps}
use Rattle.fuse_spec.specs.Files.Trees.{same_name}

nat_eq-swap : (a b : ℕ) → nat_eq a b ≡ nat_eq b a
nat_eq-swap a b = grind (arith, common_steps)

-- names are the same either way round
pub same_name-swap : (a b : List ℕ) → same_name a b ≡ same_name b a
same_name-swap [] [] = refl
same_name-swap [] (y ∷ ys) = refl
same_name-swap (x ∷ xs) [] = refl
same_name-swap (x ∷ xs) (y ∷ ys) = rw (nat_eq-swap x y, same_name-swap xs ys) refl
