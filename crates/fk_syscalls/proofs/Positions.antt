-- The first place in a list that passes a test, as `position` gives it.
use Rattle.std.proofs.Common.{◌≡◌, ℕ, ◌≤◌, Bool, true, false, not, List, Some, None, length, nat_lt, refl, arith}
use Rattle.std.specs.List.{position, position_or_len}
use Rattle.std.proofs.lemmas.Bool.Decides.{nat_tests}
use Rattle.std.proofs.lemmas.List.Sums.{prefix_len-le-length}

module _ {X : Type 0} (p : X → Bool) where
  pub place_is : (xs : List X) (i : ℕ) → position p xs ≡ Some i → position_or_len p xs ≡ i
  place_is xs i at = by (nat_lt (position_or_len p xs) (length xs)) refl
    where
      by : (b : Bool) → nat_lt (position_or_len p xs) (length xs) ≡ b → position_or_len p xs ≡ i
      by true h =
          let there : Some (position_or_len p xs) ≡ Some i = rw h at at in
          cc
      by false h =
          let there : None ≡ Some i = rw h at at in
          cc

  past_all : (xs : List X) → position p xs ≡ None → length xs ≤ position_or_len p xs
  past_all xs none = by (nat_lt (position_or_len p xs) (length xs)) refl
    where
      by : (b : Bool) → nat_lt (position_or_len p xs) (length xs) ≡ b → length xs ≤ position_or_len p xs
      by true h =
          let there : Some (position_or_len p xs) ≡ None = rw h at none in
          cc
      by false h = grind (arith, nat_tests, h)

  pub no_place_is : (xs : List X) → position p xs ≡ None → position_or_len p xs ≡ length xs
  no_place_is xs none =
      let past = past_all xs none in
      let low = prefix_len-le-length (λ x. not (p x)) xs in
      omega arith
