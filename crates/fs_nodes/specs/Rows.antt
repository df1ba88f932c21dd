-- The words of the contracts on held nodes, beside those of the definitions.
use Rattle.std.specs.Prelude.{◌≡◌, ◌≢◌, ◌≤◌, ℕ, List, Option, Some, None, map}
use Rattle.fuse_spec.specs.Values.Maps.{Map, get}
use Rattle.fuse_spec.specs.Server.Nodes.{HeldNode, NodeTable}
use Rattle.fuse_spec.specs.declared.NodeCount.{NodeCount}
use Rattle.fs_nodes.specs.declared.stored_node.StoredNode.{StoredNode}

-- the nodes, and how many more files can be given a nodeid with no memory
pub record NodesState : Type 0 where
  pub table : NodeTable
  pub room : ℕ

-- what the definitions see of what is kept under a nodeid
abbrev pub node_of : StoredNode → HeldNode
node_of kept = record { file = kept.file; generation = kept.generation; count = kept.count }

-- what stands under a nodeid is of this file
abbrev pub IsOf : Option HeldNode → ℕ → Type 0
IsOf None file = ⊥
IsOf (Some row) file = row.file ≡ file

-- no node is of this file
abbrev pub IsOfNone : Map HeldNode → ℕ → Type 0
IsOfNone rows file = (id : ℕ) (row : HeldNode) → get rows id ≡ Some row → row.file ≢ file

-- the generation under which a nodeid is given: its own or, where it is free, the coming one
abbrev pub generation_given : NodeTable → Option HeldNode → ℕ
generation_given t None = t.next_generation
generation_given t (Some row) = row.generation

-- the room that it takes
abbrev pub room_for : Option HeldNode → ℕ
room_for None = 1
room_for (Some row) = 0

-- the node is held, with at least this many lookups
abbrev pub HasCount : Option HeldNode → ℕ → Type 0
HasCount None n = ⊥
HasCount (Some row) n = n ≤ row.count

-- each held node, with its generation and its lookup count
abbrev pub listed_nodes : Map HeldNode → List NodeCount
listed_nodes rows = map (λ e. record { nodeid = e.0; generation = e.1.generation; count = e.1.count }) rows
