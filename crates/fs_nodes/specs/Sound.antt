-- What is true of held nodes after any calls.
use Rattle.std.specs.Prelude.{◌≡◌, ◌<◌, ◌≤◌, ℕ, Some, IsTrue}
use Rattle.std.specs.Ordering.{nat_cmp}
use Rattle.std.specs.FinMap.{is_sorted}
use Rattle.fuse_spec.specs.Values.Maps.{get}
use Rattle.fuse_spec.specs.Server.Nodes.{HeldNode, NodeTable}
use Rattle.fuse_spec.specs.Values.Numbers.{counter_end}

-- Nodeids rise from 2, none has the file of another, each has a lookup, and no generation is the coming one or a later.
pub record IsSoundNodeTable (t : NodeTable) : Type 0 where
  pub sorted : IsTrue (is_sorted nat_cmp t.rows)
  pub from_two : (id : ℕ) (row : HeldNode) → get t.rows id ≡ Some row → 2 ≤ id
  pub one_each : (id other : ℕ) (row same : HeldNode) → get t.rows id ≡ Some row → get t.rows other ≡ Some same
      → row.file ≡ same.file → id ≡ other
  pub counted : (id : ℕ) (row : HeldNode) → get t.rows id ≡ Some row → 0 < row.count
  pub given_before : (id : ℕ) (row : HeldNode) → get t.rows id ≡ Some row → row.generation < t.next_generation

-- Those nodes, whose generations stay within their range.
pub record AreNodesKept (t : NodeTable) : Type 0 where
  pub limit : t.next_generation ≤ counter_end
  pub sound : IsSoundNodeTable t
