use Rattle.fuse_replies.specs.NodeIds.{node_ids_in}
use Rattle.frame_words.specs.Replies.{node_words}
use Rattle.fuse_text.proofs.Writes.{Left}
use Rattle.frame_words.proofs.notifications.write_each_node.Given as goal

abbrev pub invariant-loop-nodeid : goal.invariant-loop-nodeid
invariant-loop-nodeid g l =
    (goal.iterator-loop-nodeid g).can_next l.nodeid-iterator
    × (goal.iterator-loop-nodeid g).is_finite l.nodeid-iterator
    × Left node_words (g.W.Write.contents l.initial.out) (g.W.Write.contents l.out) (node_ids_in l.fn.nodeids) (node_ids_in l.nodeid-iterator)
