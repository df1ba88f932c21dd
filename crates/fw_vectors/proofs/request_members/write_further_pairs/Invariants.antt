use Rattle.fk_wire.specs.Pairs.{pairs_in}
use Rattle.fw_vectors.specs.Members.{further, pair_object}
use Rattle.fuse_text.proofs.Writes.{Left}
use Rattle.fw_vectors.proofs.request_members.write_further_pairs.Given as goal

abbrev pub invariant-loop-nodeid : goal.invariant-loop-nodeid
invariant-loop-nodeid g l =
    (goal.iterator-loop-nodeid g).can_next l.nodeid-iterator
    × (goal.iterator-loop-nodeid g).is_finite l.nodeid-iterator
    × Left (further pair_object) (g.W.Write.contents l.initial.out) (g.W.Write.contents l.out) (pairs_in l.fn.pairs) (pairs_in l.nodeid-iterator)
