use Rattle.std.proofs.Common.{◌≡◌, ◌++◌, drop}
use Rattle.fk_lookup_count.specs.CountedNodes.{listed_counts}
use Rattle.fk_lookup_count.specs.Slots.{nodes_among}
use Rattle.fk_lookup_count.proofs.slots.list_nodes.Given as goal

-- the nodes so far, and those of the slots that are left
abbrev pub invariant-loop-row : goal.invariant-loop-row
invariant-loop-row g l = l.nodes.items ++ listed_counts (nodes_among (drop l.row-index l.slots))
    ≡ listed_counts (nodes_among l.slots)
