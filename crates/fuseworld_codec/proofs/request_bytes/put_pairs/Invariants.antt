use Rattle.std.proofs.Common.{◌≡◌, ◌+◌, ◌*◌, ◌++◌, length, take}
use Rattle.fk_wire.specs.Fields.{InRange, spellings}
use Rattle.fk_wire.specs.Pairs.{forget_ones, pairs_in}
use Rattle.fuseworld_codec.proofs.request_bytes.put_pairs.Given as goal

abbrev pub invariant-pairs : goal.invariant-pairs
invariant-pairs l =
    (goal.iterator-pairs).can_next l.nodeid-iterator
    × (goal.iterator-pairs).is_finite l.nodeid-iterator
    × (take l.place l.out ++ spellings (forget_ones (pairs_in l.nodeid-iterator)) ≡ take l.fn.place l.fn.out
    ++ spellings (forget_ones (pairs_in l.fn.pairs)))
    × (l.place + 16 * length (pairs_in l.nodeid-iterator) ≡ l.fn.place + 16 * length (pairs_in l.fn.pairs))
    × (length l.out ≡ length l.fn.out)
    × (InRange (forget_ones (pairs_in l.nodeid-iterator)) → InRange (forget_ones (pairs_in l.fn.pairs)))
