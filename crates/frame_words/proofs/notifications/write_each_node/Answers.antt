use Rattle.std.proofs.Common.{◌≡◌, ◌∷◌}
use Rattle.fuse_replies.specs.NodeIds.{node_ids_in}
use Rattle.frame_words.specs.Replies.{node_words}
use Rattle.fuse_text.proofs.Writes.{Left, none_done, one_more, all_done}
use Rattle.frame_words.proofs.notifications.write_each_node.Goals as goal

pub loop-nodeid-init : goal.loop-nodeid-init
loop-nodeid-init g c = rw c.into_iter-nodeid-iterator.ensures.into_iter_gives
    (tt, tt, none_done node_words (g.W.Write.contents c.args.out.now) (node_ids_in c.args.nodeids))

pub loop-nodeid-preserved : goal.loop-nodeid-preserved
loop-nodeid-preserved g c =
    let now = g.W.Write.contents in
    let first = c.in-Some.nodeid in
    let rest = node_ids_in c.next.new.self in
    let k : node_ids_in c.loop-nodeid.nodeid-iterator ≡ first ∷ rest = c.in-Some.ensures.steps in
    let before : Left node_words (now c.args.out.now) (now c.loop-nodeid.out) (node_ids_in c.args.nodeids) (first ∷ rest) =
    rw k at c.loop-nodeid.invariant.2 in (
      tt,
      tt,
      one_more node_words (now c.args.out.now) (now c.loop-nodeid.out) (now c.write_node.new.out) (node_ids_in c.args.nodeids) rest first before
          (c.in_ok-write_node.ensures),
    )

pub returns : goal.returns
returns g c =
    let now = g.W.Write.contents in
    all_done node_words (now c.args.out.now) (now c.loop-nodeid.out) (node_ids_in c.args.nodeids)
    (rw (c.in-None.ensures.steps.0) at c.loop-nodeid.invariant.2)
