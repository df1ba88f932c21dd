-- Which nodes the kernel uses, each of which it knows.
use Rattle.std.specs.Prelude.{◌≡◌, ◌≢◌, ℕ, List, Some, None, All}
use Rattle.fuse_spec.specs.declared.Dentry.{Dentry}
use Rattle.fuse_spec.specs.declared.Counted.{Counted}
use Rattle.fuse_spec.specs.declared.Opened.{Opened}
use Rattle.fuse_spec.specs.Values.Maps.{Map, NameMap, get_name, values}
use Rattle.fuse_spec.specs.Calls.Vfs.{CallState, Vfs}
use Rattle.fuse_spec.specs.Kernel.Kernel.{Kernel, nodes_of_state}
use Rattle.fuse_spec.specs.Claim.Denotes.{generation_known}

-- The kernel counts the node, or it is the root.
abbrev pub IsKnown : Map Counted → ℕ → Type 0
IsKnown nodes id = generation_known nodes id ≢ None

-- Each cached name stands in a known node, and leads to a known one or to none.
pub record NamesKnown (nodes : Map Counted) (names : NameMap Dentry) : Type 0 where
  pub directories : (id : ℕ) (name : List ℕ) (bound : Dentry) → get_name names (id, name) ≡ Some bound
      → IsKnown nodes id
  pub targets : (id : ℕ) (name : List ℕ) (bound : Dentry) → get_name names (id, name) ≡ Some bound → (target : ℕ)
      → bound.target ≡ Some target → IsKnown nodes target

-- What an unanswered call stands on or names is known, what an open file is of, and what a name binds.
pub record VfsKnown (nodes : Map Counted) (c : Vfs Opened) : Type 0 where
  pub root : IsKnown nodes c.root
  pub names : NamesKnown nodes c.names
  pub calls : All (λ (state : CallState Opened). All (IsKnown nodes) (nodes_of_state state)) (values c.calls)
  pub opens : All (λ (o : Opened). IsKnown nodes o.nodeid) (values c.opens)

abbrev pub NodesKnown : Kernel → Type 0
NodesKnown k = VfsKnown k.nodes k.vfs
