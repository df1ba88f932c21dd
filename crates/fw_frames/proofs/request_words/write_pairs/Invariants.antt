use Rattle.fk_wire.specs.Pairs.{pairs_in}
use Rattle.fw_frames.specs.Words.{pair_words}
use Rattle.fuse_text.proofs.Writes.{Left}
use Rattle.fw_frames.proofs.request_words.write_pairs.Given as goal

abbrev pub invariant-loop-nodeid : goal.invariant-loop-nodeid
invariant-loop-nodeid g l =
    (goal.iterator-loop-nodeid g).can_next l.nodeid-iterator
    × (goal.iterator-loop-nodeid g).is_finite l.nodeid-iterator
    × Left pair_words (g.W.Write.contents l.initial.out) (g.W.Write.contents l.out) (pairs_in l.fn.pairs) (pairs_in l.nodeid-iterator)
