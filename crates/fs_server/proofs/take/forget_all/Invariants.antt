use Rattle.std.proofs.Common.{◌≡◌, ◌≤◌, ℕ}
use Rattle.fuse_spec.specs.Values.Maps.{get}
use Rattle.fuse_spec.specs.Server.Server.{count_in, forgotten, all_taken_back}
use Rattle.fk_wire.specs.Pairs.{pairs_in}
use Rattle.fs_server.specs.Effects.{DiscardsUnheld}
use Rattle.fs_server.proofs.take.forget_all.Given as goal

abbrev pub invariant-pairs : goal.invariant-pairs
invariant-pairs g l =
    (goal.iterator-pairs g).can_next l.nodeid-iterator
    × (goal.iterator-pairs g).is_finite l.nodeid-iterator
    × (all_taken_back l.files.nodes (pairs_in l.nodeid-iterator)
    ≡ all_taken_back l.fn.files.nodes (pairs_in l.fn.pairs))
    × ((id : ℕ) → forgotten id (pairs_in l.nodeid-iterator) ≤ count_in (get l.files.nodes.rows id))
    × DiscardsUnheld l.fn.files l.files.nodes l.fn.files.handles l.files
