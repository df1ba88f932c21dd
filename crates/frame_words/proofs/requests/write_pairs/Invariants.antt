use Rattle.fuse_protocol.specs.Pairs.{pairs_in}
use Rattle.frame_words.specs.Requests.{pair_words}
use Rattle.fuse_text.proofs.Writes.{Left}
use Rattle.frame_words.proofs.requests.write_pairs.Given as goal

abbrev pub invariant-loop-one : goal.invariant-loop-one
invariant-loop-one g l =
    (goal.iterator-loop-one g).can_next l.one-iterator
    × (goal.iterator-loop-one g).is_finite l.one-iterator
    × Left pair_words (g.W.Write.contents l.initial.out) (g.W.Write.contents l.out) (pairs_in l.fn.pairs) (pairs_in l.one-iterator)
