use Rattle.fuse_text.specs.Nodes.{spaced_node}
use Rattle.fuse_text.proofs.Writes.{OnErr-always, some_within}
use Rattle.fuse_text.proofs.node_text.write_list.Goals as goal

pub returns-in_err-write_spaced_node-clause-refused : goal.returns-in_err-write_spaced_node-clause-refused
returns-in_err-write_spaced_node-clause-refused g c =
    OnErr-always _ c.from_residual.result
    (some_within spaced_node c.args.nodes.now c.loop-node.node-index _ (g.W.Write.contents c.args.out.now)
    (g.W.Write.contents c.loop-node.out) (g.W.Write.contents c.write_spaced_node.new.out) c.loop-node-test.true
    c.loop-node.invariant c.in_err-write_spaced_node.ensures.refused)
