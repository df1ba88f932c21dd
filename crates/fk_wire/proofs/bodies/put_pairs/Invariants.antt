use Rattle.std.proofs.Common.{◌≡◌, ◌≤◌, ◌+◌, ◌*◌, ◌++◌, length, vec_len, vec_capacity}
use Rattle.fk_wire.specs.Fields.{InRange, spellings}
use Rattle.fk_wire.specs.Pairs.{pairs_in, forget_ones}
use Rattle.fk_wire.proofs.bodies.put_pairs.Given as goal

abbrev pub invariant-pairs : goal.invariant-pairs
invariant-pairs g l =
    (goal.iterator-pairs g).can_next l.nodeid-iterator
    × (goal.iterator-pairs g).is_finite l.nodeid-iterator
    × (l.out.items ++ spellings (forget_ones (pairs_in l.nodeid-iterator)) ≡ l.fn.out.items
    ++ spellings (forget_ones (pairs_in l.fn.pairs)))
    × (vec_len l.out + 16 * length (pairs_in l.nodeid-iterator) ≤ vec_capacity l.out)
    × (InRange (forget_ones (pairs_in l.nodeid-iterator)) → InRange (forget_ones (pairs_in l.fn.pairs)))
