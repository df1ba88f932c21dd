-- How many pins each node has.
use Rattle.std.specs.Prelude.{◌≡◌, ℕ, nat_eq, List}
use Rattle.std.specs.Map.{lookup}
use Rattle.fuse_tables.specs.Tallies.{positive}

-- Each node has this number of pins.
pub record HavePins (counts : List (ℕ × ℕ)) (pins : ℕ → ℕ) : Type 0 where
  pub counted : (node : ℕ) → lookup (nat_eq node) counts ≡ positive (pins node)
