use Rattle.std.proofs.Common.{◌≡◌, nat_lt}
use Rattle.fuse_spec.specs.Server.Server.{forgotten}
use Rattle.fk_wire.specs.Pairs.{pairs_in}
use Rattle.fs_server.proofs.request_faults.has_fewer.Given as goal

abbrev pub invariant-pairs : goal.invariant-pairs
invariant-pairs l =
    goal.iterator-pairs.can_next l.nodeid-iterator
    × goal.iterator-pairs.is_finite l.nodeid-iterator
    × (nat_lt l.left (forgotten l.node (pairs_in l.nodeid-iterator))
    ≡ nat_lt l.count (forgotten l.node (pairs_in l.fn.pairs)))
