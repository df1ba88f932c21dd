-- Slots whose place plus 2 is the nodeid.
use Rattle.std.specs.Prelude.{ℕ, ◌+◌, ◌-◌, ◌<◌, ◌^◌, List, [], ◌∷◌, Option, Some, None, slice_index_or, cond, nat_lt, nat_le, min, option_map}
use Rattle.fuse_spec.specs.Values.Maps.{Map}
use Rattle.fuse_spec.specs.Server.Nodes.{HeldNode}
use Rattle.fs_nodes.specs.declared.stored_node.StoredNode.{StoredNode}
use Rattle.fs_nodes.specs.Rows.{node_of}

-- the nodes, where the first slot has this nodeid
abbrev pub rows_from : ℕ → List (Option StoredNode) → Map HeldNode
rows_from id [] = []
rows_from id (None ∷ rest) = rows_from (id + 1) rest
rows_from id (Some kept ∷ rest) = (id, node_of kept) ∷ rows_from (id + 1) rest

-- what stands at a place
abbrev pub at_place : List (Option StoredNode) → ℕ → Option StoredNode
at_place slots place = slice_index_or slots place None

-- the file of what stands there
abbrev pub slot_file : List (Option StoredNode) → ℕ → Option ℕ
slot_file slots place = option_map (λ (kept : StoredNode). kept.file) (at_place slots place)

-- the place of a nodeid
abbrev pub slot_of : ℕ → Option ℕ
slot_of id = cond (nat_lt id 2) None (Some (id - 2))

-- The room of a slab and a map. A slab past 2^62 places, which no memory holds, has none: its nodeids might not fit.
abbrev pub room_of : ℕ → ℕ → ℕ → ℕ
room_of capacity len spare = cond (nat_le capacity (2 ^ 62)) (min (capacity - len) spare) 0

-- places from which nodeids fit
abbrev pub AreSmall : List (ℕ × StoredNode) → Type 0
AreSmall [] = Unit {0}
AreSmall (e ∷ es) = (e.0 < 2 ^ 62) × AreSmall es
