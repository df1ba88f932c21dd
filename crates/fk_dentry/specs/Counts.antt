-- Counts of nodes, by the node's id.
use Rattle.std.specs.Prelude.{ℕ, ◌+◌, [], ◌∷◌}
use Rattle.std.specs.Option.{unwrap_or}
use Rattle.fuse_spec.specs.Values.Maps.{Map, get}

-- the count of the node, or 0
abbrev pub mentions_of : Map ℕ → ℕ → ℕ
mentions_of counts id = unwrap_or (get counts id) 0

-- the sum of all counts
abbrev pub total_in : Map ℕ → ℕ
total_in [] = 0
total_in (e ∷ es) = e.1 + total_in es
