-- How the names of a list with their files are judged and counted.
use Rattle.std.specs.Prelude.{◌≡◌, ◌<◌, ◌≤◌, ℕ, suc, Bool, false, ◌&&◌, cond, List, [], ◌∷◌, ◌++◌, Option, Some, None, nat_eq, nat_lt, ◌+◌}
use Rattle.fuse_spec.specs.declared.Counted.{Counted}
use Rattle.fuse_spec.specs.declared.Entry.{Entry}
use Rattle.fuse_spec.specs.Values.Maps.{Map, get, put}
use Rattle.fuse_spec.specs.Values.Numbers.{counter_end}
use Rattle.fuse_spec.specs.Files.Operations.{DirentPlus, listed_by}
use Rattle.fuse_spec.specs.Kernel.Replies.{Use, usable, unusable, stale, use_of, use_of_listed, pair_judged, counted_more, stale_in}

-- The counts after an entry that is judged so.
abbrev pub looked_up_by_use : Map Counted → Entry → Use → Map Counted
looked_up_by_use nodes g usable = put nodes g.nodeid (counted_more g (get nodes g.nodeid))
looked_up_by_use nodes g unusable = nodes
looked_up_by_use nodes g (stale node) = nodes

-- The counts after a name with this file, or with none.
abbrev pub looked_up_listed : Map Counted → Option Entry → Map Counted
looked_up_listed nodes None = nodes
looked_up_listed nodes (Some g) = looked_up_by_use nodes g (use_of nodes g)

-- The counts after the names of a list.
abbrev pub looked_up_from : Map Counted → List (DirentPlus Entry) → Map Counted
looked_up_from nodes [] = nodes
looked_up_from nodes (pair ∷ pairs) = looked_up_from (looked_up_listed nodes (listed_by pair)) pairs

-- A name of a list, judged by these counts.
abbrev pub judged_in : Map Counted → DirentPlus Entry → DirentPlus Entry
judged_in nodes pair = pair_judged pair (use_of_listed nodes (listed_by pair))

-- The nodes of the names of a list that have another generation than these counts.
abbrev pub stale_by : Map Counted → List (DirentPlus Entry) → List ℕ
stale_by nodes [] = []
stale_by nodes (pair ∷ pairs) = stale_in (use_of_listed nodes (listed_by pair)) ++ stale_by nodes pairs

-- Whether a name gives this node under this generation.
abbrev pub is_of_node : (id generation : ℕ) → Option Entry → Bool
is_of_node id generation None = false
is_of_node id generation (Some g) = nat_eq g.nodeid id && nat_eq g.generation generation

-- How many names of a list do.
abbrev pub times_listed : (id generation : ℕ) → List (DirentPlus Entry) → ℕ
times_listed id generation [] = 0
times_listed id generation (pair ∷ pairs) = cond (is_of_node id generation (listed_by pair))
    (suc (times_listed id generation pairs)) (times_listed id generation pairs)

-- No node's count has reached the end of counters.
pub record HaveCountsInRange (nodes : Map Counted) : Type 0 where
  pub below : (id : ℕ) (counted : Counted) → get nodes id ≡ Some counted → counted.count < counter_end

-- No node's count is higher than this.
pub record AreAtMost (most : ℕ) (nodes : Map Counted) : Type 0 where
  pub within : (id : ℕ) (counted : Counted) → get nodes id ≡ Some counted → counted.count ≤ most

-- Some node's count has reached the end of counters.
pub record SomeOut (nodes : Map Counted) : Type 0 where
  pub id : ℕ
  pub counted : Counted
  pub at : get nodes id ≡ Some counted
  pub out : counter_end ≤ counted.count

-- Where this name has a counted node under its generation, all of these names that have it so leave its count below the
-- end.
abbrev pub LeavesBelow : Map Counted → List (DirentPlus Entry) → Option Entry → Type 0
LeavesBelow nodes pairs None = Unit {0}
LeavesBelow nodes pairs (Some g) = (c : Counted) → nat_lt g.nodeid 2 ≡ false → get nodes g.nodeid ≡ Some c
    → c.generation ≡ g.generation → c.count + times_listed g.nodeid g.generation pairs < counter_end
