use Rattle.std.proofs.Common.{◌≡◌, ◌+◌, ◌++◌, length, take}
use Rattle.fk_wire.specs.Fields.{InRange, sizes, spellings}
use Rattle.fk_wire.specs.Dirents.{HavePlusNames, direntpluses}
use Rattle.fk_wire.specs.Records.{pluses_in}
use Rattle.fuseworld_codec.proofs.reply_bytes.put_direntpluses.Given as goal

abbrev pub invariant-pairs : goal.invariant-pairs
invariant-pairs l =
    (goal.iterator-pairs).can_next l.pair-iterator
    × (goal.iterator-pairs).is_finite l.pair-iterator
    × (take l.place l.out ++ spellings (direntpluses (pluses_in l.pair-iterator)) ≡ take l.fn.place l.fn.out
    ++ spellings (direntpluses (pluses_in l.fn.records)))
    × (l.place + sizes (direntpluses (pluses_in l.pair-iterator)) ≡ l.fn.place + sizes
    (direntpluses (pluses_in l.fn.records)))
    × (length l.out ≡ length l.fn.out)
    × (InRange (direntpluses (pluses_in l.pair-iterator)) → InRange (direntpluses (pluses_in l.fn.records)))
    × HavePlusNames (pluses_in l.pair-iterator)
