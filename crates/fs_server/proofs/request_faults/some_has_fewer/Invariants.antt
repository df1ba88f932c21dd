use Rattle.std.proofs.Common.{◌≡◌, nat_lt}
use Rattle.std.specs.List.{list_any}
use Rattle.fuse_spec.specs.Values.Maps.{get}
use Rattle.fuse_spec.specs.Server.Server.{count_in, forgotten}
use Rattle.fk_wire.specs.Pairs.{pairs_in}
use Rattle.fs_server.proofs.request_faults.some_has_fewer.Given as goal

abbrev pub invariant-pairs : goal.invariant-pairs
invariant-pairs g l =
    (goal.iterator-pairs g).can_next l.nodeid-iterator
    × (goal.iterator-pairs g).is_finite l.nodeid-iterator
    × (list_any (λ f. nat_lt (count_in (get l.nodes.table.rows f.0)) (forgotten f.0 (pairs_in l.fn.pairs)))
    (pairs_in l.nodeid-iterator)
    ≡ list_any (λ f. nat_lt (count_in (get l.nodes.table.rows f.0)) (forgotten f.0 (pairs_in l.fn.pairs)))
    (pairs_in l.fn.pairs))
