use Rattle.std.proofs.Common.{◌≡◌, ◌+◌, ◌++◌, drop}
use Rattle.fs_nodes.specs.Rows.{listed_nodes}
use Rattle.fs_nodes.specs.Slots.{rows_from}
use Rattle.fs_nodes.proofs.list_rows.list_slots.Given as goal

-- what is listed, and then the nodes that are left, are all
abbrev pub invariant-loop-place : goal.invariant-loop-place
invariant-loop-place g l = l.list.items ++ listed_nodes (rows_from (l.place + 2) (drop l.place l.slots))
    ≡ listed_nodes (rows_from 2 l.slots)
