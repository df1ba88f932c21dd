use Rattle.std.proofs.Common.{◌≡◌, ◌++◌}
use Rattle.fs_nodes.specs.Rows.{listed_nodes}
use Rattle.fs_nodes.specs.Slots.{rows_from, AreSmall}
use Rattle.fs_nodes.proofs.Slots.{listed_places}
use Rattle.fs_nodes.proofs.slab_rows.list_nodes.Given as goal

-- what is listed, and then the nodes that are left, are all
abbrev pub invariant-loop-place : goal.invariant-loop-place
invariant-loop-place g l =
    (goal.iterator-loop-place g).can_next l.place-iterator ×
    (goal.iterator-loop-place g).is_finite l.place-iterator ×
    AreSmall l.place-iterator ×
    (l.list.items ++ listed_places l.place-iterator ≡ listed_nodes (rows_from 2 l.nodes.slots))
