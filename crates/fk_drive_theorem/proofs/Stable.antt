-- What holds as soon as it is not false: what cannot be said of the bytes of a reply does not matter to it.
use Rattle.std.proofs.Common.{◌≡◌, ℕ, ◌≤◌, Bool, true, false, List, [], ◌∷◌, Option, Some, None, refl, ap, arith}
use Rattle.std.specs.Prelude.{nat_le}
use Rattle.std.proofs.lemmas.Bool.Decides.{nat_tests}
use Rattle.std.proofs.Math.Decide.{ℕ_discrete}

abbrev pub Stable : Type 0 → Type 0
Stable P = ((P → ⊥) → ⊥) → P

-- two numbers are equal
pub same_number : (a b : ℕ) → Stable (a ≡ b)
same_number a b s = elim (ℕ_discrete a b) [
  | yes e ↦ e
  | no ne ↦ absurd (s ne)
]

-- two lists are equal, where their elements are such
pub same_list : {X : Type 0} → ((x y : X) → Stable (x ≡ y)) → (xs ys : List X) → Stable (xs ≡ ys)
same_list one [] [] s = refl
same_list one [] (y ∷ ys) s = absurd (s (λ e. cc e))
same_list one (x ∷ xs) [] s = absurd (s (λ e. cc e))
same_list {X} one (x ∷ xs) (y ∷ ys) s =
    let first : x ≡ y = one x y (λ ne. s (λ e. ne (cc e))) in
    let rest : xs ≡ ys = same_list one xs ys (λ ne. s (λ e. ne (cc e))) in
    λ i. first i ∷ rest i

-- there is nothing
pub is_nothing : {X : Type 0} (o : Option X) → Stable (o ≡ None)
is_nothing None s = refl
is_nothing (Some x) s = absurd (s (λ e. cc e))

-- there is this
pub is_something : {X : Type 0} → ((x y : X) → Stable (x ≡ y)) → (o : Option X) (x : X) → Stable (o ≡ Some x)
is_something one None x s = absurd (s (λ e. cc e))
is_something {X} one (Some y) x s = ap (λ (z : X). Some z) (one y x (λ ne. s (λ e. ne (cc e))))

-- one number is at most another
pub at_most : (a b : ℕ) → Stable (a ≤ b)
at_most a b s = by (nat_le a b) refl
  where
    by : (t : Bool) → nat_le a b ≡ t → a ≤ b
    by true e = grind (arith, nat_tests, e)
    by false e = absurd (s (λ le. grind (arith, nat_tests, e, le)))

-- two truth values are equal
pub same_truth : (a b : Bool) → Stable (a ≡ b)
same_truth true true s = refl
same_truth false false s = refl
same_truth a b s = absurd (s (λ e. cc e))

-- a list is empty
pub is_empty : {X : Type 0} (xs : List X) → Stable (xs ≡ [])
is_empty [] s = refl
is_empty (x ∷ xs) s = absurd (s (λ e. cc e))
