-- The counted nodes, and what each call makes of them.
use Rattle.std.specs.Prelude.{◌≢◌, ℕ, ◌+◌, List, Option, Some, None, map}
use Rattle.fuse_spec.specs.Values.Maps.{Map, put}
use Rattle.fuse_spec.specs.declared.Counted.{Counted}
use Rattle.fuse_spec.specs.declared.NodeCount.{NodeCount}
use Rattle.fk_lookup_count.specs.declared.forget.Forget.{Forget}

-- The id is counted under another generation.
abbrev pub IsUnlike : Option Counted → ℕ → Type 0
IsUnlike None generation = ⊥
IsUnlike (Some node) generation = node.generation ≢ generation

-- One more lookup of a node, the first or another.
abbrev pub counted_once_more : Map Counted → ℕ → ℕ → Option Counted → Map Counted
counted_once_more nodes id generation None = put nodes id (record { generation = generation; count = 1 })
counted_once_more nodes id generation (Some node) = put nodes id (record node { count = node.count + 1 })

-- The forget of a node's whole count, unless it is not counted.
abbrev pub forget_of : ℕ → Option Counted → Option Forget
forget_of id None = None
forget_of id (Some node) = Some (record { nodeid = id; nlookup = node.count })

-- Each counted node, with its generation and its lookup count.
abbrev pub listed_counts : Map Counted → List NodeCount
listed_counts nodes = map (λ e. record { nodeid = e.0; generation = e.1.generation; count = e.1.count }) nodes
