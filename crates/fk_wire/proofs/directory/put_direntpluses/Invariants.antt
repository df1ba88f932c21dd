use Rattle.std.proofs.Common.{◌≡◌, ◌≤◌, ◌+◌, ◌++◌, vec_len, vec_capacity}
use Rattle.fk_wire.specs.Fields.{InRange, sizes, spellings}
use Rattle.fk_wire.specs.Dirents.{direntpluses, HavePlusNames}
use Rattle.fk_wire.specs.Records.{pluses_in}
use Rattle.fk_wire.proofs.directory.put_direntpluses.Given as goal

abbrev pub invariant-pairs : goal.invariant-pairs
invariant-pairs g l =
    (goal.iterator-pairs g).can_next l.pair-iterator
    × (goal.iterator-pairs g).is_finite l.pair-iterator
    × (l.out.items ++ spellings (direntpluses (pluses_in l.pair-iterator)) ≡ l.fn.out.items
    ++ spellings (direntpluses (pluses_in l.fn.records)))
    × (vec_len l.out + sizes (direntpluses (pluses_in l.pair-iterator)) ≤ vec_capacity l.out)
    × (InRange (direntpluses (pluses_in l.pair-iterator)) → InRange (direntpluses (pluses_in l.fn.records)))
    × HavePlusNames (pluses_in l.pair-iterator)
