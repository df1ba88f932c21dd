-- Two maps, each the other's inverse: the file at each place, and the place of each file.
use Rattle.std.specs.Prelude.{◌≡◌, ℕ, Option, Some}

pub record AreInverse (file_at place_of : ℕ → Option ℕ) : Type 0 where
  pub leads : (file place : ℕ) → place_of file ≡ Some place → file_at place ≡ Some file
  pub named : (file place : ℕ) → file_at place ≡ Some file → place_of file ≡ Some place
