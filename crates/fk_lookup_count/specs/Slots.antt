-- The nodes in slots: a slot of count 0 is room for a node, and no node.
use Rattle.std.specs.Prelude.{ℕ, ◌+◌, Bool, Option, Some, None, cond, filter, nat_eq, nat_lt}
use Rattle.std.specs.Ordering.{nat_cmp}
use Rattle.std.specs.FinMap.{FinMap, entries, insert}
use Rattle.fuse_spec.specs.Values.Maps.{Map}
use Rattle.fuse_spec.specs.declared.Counted.{Counted}

abbrev pub is_node : ℕ × Counted → Bool
is_node e = nat_lt 0 e.1.count

abbrev pub nodes_among : Map Counted → Map Counted
nodes_among rows = filter is_node rows

abbrev pub nodes_in : FinMap nat_cmp Counted → Map Counted
nodes_in slots = nodes_among (entries slots)

-- A slot with one lookup more under a generation, unless it holds a node of another.
abbrev pub slot_counted_more : (generation : ℕ) → Counted → Option Counted
slot_counted_more generation slot = cond (nat_eq slot.count 0) (Some (record { generation = generation; count = 1 }))
    (cond (nat_eq slot.generation generation) (Some (record slot { count = slot.count + 1 })) None)

-- The slots once this stands in the slot of an id, if it is anything.
abbrev pub written : FinMap nat_cmp Counted → ℕ → Option Counted → FinMap nat_cmp Counted
written slots id None = slots
written slots id (Some slot) = insert slots id slot

-- The slots with one lookup more in this slot, where there is one.
abbrev pub slot_looked_up : FinMap nat_cmp Counted → (id generation : ℕ) → Option Counted → FinMap nat_cmp Counted
slot_looked_up slots id generation None = slots
slot_looked_up slots id generation (Some slot) = written slots id (slot_counted_more generation slot)
