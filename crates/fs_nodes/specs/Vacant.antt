-- A list of slots, and the list of its vacant places.
use Rattle.std.specs.Prelude.{◌≡◌, ℕ, ◌<◌, ◌≤◌, Bool, false, List, Option, Some, None, length, nat_eq, count_by}
use Rattle.fs_nodes.specs.declared.stored_node.StoredNode.{StoredNode}
use Rattle.fs_nodes.specs.Slots.{at_place}

-- a slot has a node of the file
abbrev pub is_kept_of : ℕ → Option StoredNode → Bool
is_kept_of file None = false
is_kept_of file (Some kept) = nat_eq kept.file file

-- Each place that was dropped is vacant, and stands there once.
pub record AreVacant (slots : List (Option StoredNode)) (dropped : List ℕ) : Type 0 where
  pub empty : (place : ℕ) → 0 < count_by (nat_eq place) dropped → at_place slots place ≡ None
  pub within : (place : ℕ) → 0 < count_by (nat_eq place) dropped → place < length slots
  pub once : (place : ℕ) → count_by (nat_eq place) dropped ≤ 1
