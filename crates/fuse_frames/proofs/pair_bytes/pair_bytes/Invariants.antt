use Rattle.std.proofs.Common.{◌≡◌, ◌++◌, drop}
use Rattle.fk_wire.specs.Fields.{InRange, spellings}
use Rattle.fk_wire.specs.Pairs.{forget_ones}
use Rattle.fuse_frames.proofs.pair_bytes.pair_bytes.Given as goal

abbrev pub invariant-loop-node : goal.invariant-loop-node
invariant-loop-node g l =
    record {
      items : l.bytes.items ++ spellings (forget_ones (drop l.node-index l.pairs)) ≡ spellings (forget_ones l.pairs);
      fits : InRange (forget_ones (drop l.node-index l.pairs)) → InRange (forget_ones l.pairs);
    }
