-- Entries that are put one after another.
use Rattle.std.proofs.Common.{◌≡◌, ◌≤◌, ◌+◌, ◌++◌, Option, Some, None, List, [], ◌∷◌, length, refl, ap, arith}
use Rattle.fuse_spec.specs.Files.Operations.{first_listed}

pub one_on : {A : Type 0} (xs : List A) (x : A) (ys : List A) → (xs ++ x ∷ []) ++ ys ≡ xs ++ x ∷ ys
one_on {A} [] x ys = refl
one_on {A} (y ∷ xs) x ys = ap (λ (zs : List A). y ∷ zs) (one_on xs x ys)

none_on : {A : Type 0} (xs ys : List A) → (xs ++ []) ++ ys ≡ xs ++ ys
none_on {A} [] ys = refl
none_on {A} (y ∷ xs) ys = ap (λ (zs : List A). y ∷ zs) (none_on xs ys)

pub files_on : {A : Type 0} (xs : List A) (file : Option A) (ys : List A)
    → (xs ++ first_listed file []) ++ ys ≡ xs ++ first_listed file ys
files_on xs None ys = none_on xs ys
files_on xs (Some x) ys = one_on xs x ys

pub one_longer : {A : Type 0} (xs : List A) (x : A) → length (xs ++ x ∷ []) ≡ length xs + 1
one_longer {A} [] x = refl
one_longer {A} (y ∷ xs) x = let rest = one_longer xs x in omega (arith, rest)

none_longer : {A : Type 0} (xs : List A) → length (xs ++ []) ≡ length xs
none_longer {A} [] = refl
none_longer {A} (y ∷ xs) = let rest = none_longer xs in omega (arith, rest)

pub files_longer : {A : Type 0} (xs : List A) (file : Option A) → length (xs ++ first_listed file []) ≤ length xs + 1
files_longer xs None = let same = none_longer xs in omega (arith, same)
files_longer xs (Some x) = let same = one_longer xs x in omega (arith, same)
