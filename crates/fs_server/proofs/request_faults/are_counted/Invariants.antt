use Rattle.std.proofs.Common.{◌≡◌}
use Rattle.std.specs.List.{list_all}
use Rattle.fuse_spec.specs.Server.Server.{is_forgettable}
use Rattle.fk_wire.specs.Pairs.{pairs_in}
use Rattle.fs_server.proofs.request_faults.are_counted.Given as goal

abbrev pub invariant-pairs : goal.invariant-pairs
invariant-pairs g l =
    (goal.iterator-pairs g).can_next l.nodeid-iterator
    × (goal.iterator-pairs g).is_finite l.nodeid-iterator
    × (list_all (is_forgettable l.nodes.table) (pairs_in l.nodeid-iterator)
    ≡ list_all (is_forgettable l.nodes.table) (pairs_in l.fn.pairs))
