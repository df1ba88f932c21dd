-- What ordered maps compare of a name first.
use Rattle.std.specs.Prelude.{ℕ, ◌+◌, ◌*◌, ◌%◌, ◌^◌, List, [], ◌∷◌, take}

-- the number of these bytes, behind this one
abbrev pub number_behind : ℕ → List ℕ → ℕ
number_behind n [] = n
number_behind n (b ∷ bs) = number_behind (((n * 256) % 2 ^ 64 + b) % 2 ^ 64) bs

-- the number of the first eight bytes of a name
unfoldable pub front_of : List ℕ → ℕ
front_of name = number_behind 0 (take 8 name)
