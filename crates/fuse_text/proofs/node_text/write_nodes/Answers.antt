use Rattle.std.proofs.Common.{append_assoc, codes}
use Rattle.std.specs.Prelude.{flat_map}
use Rattle.fuse_text.specs.Nodes.{spaced_node}
use Rattle.fuse_text.proofs.Writes.{refused_1, refused_2, refused_3}
use Rattle.fuse_text.proofs.node_text.write_nodes.Goals as goal

pub returns-in_err-write_text-clause-refused : goal.returns-in_err-write_text-clause-refused
returns-in_err-write_text-clause-refused g c =
    let nodes = flat_map spaced_node c.args.nodes.now in
    refused_1 _ _ _ c.args.side.now nodes (codes "\n") _ (append_assoc c.args.side.now nodes (codes "\n"))
    c.in_err-write_text.ensures.refused

pub returns-in_err-write_list-clause-refused : goal.returns-in_err-write_list-clause-refused
returns-in_err-write_list-clause-refused g c =
    let nodes = flat_map spaced_node c.args.nodes.now in
    refused_2 _ _ _ _ c.args.side.now nodes (codes "\n") _ (append_assoc c.args.side.now nodes (codes "\n"))
    c.in_ok-write_text.ensures.ok c.in_err-write_list.ensures.refused

pub returns-clause-refused : goal.returns-clause-refused
returns-clause-refused g c =
    let nodes = flat_map spaced_node c.args.nodes.now in
    refused_3 c.write_text-2.result _ _ _ _ c.args.side.now nodes (codes "\n") _
    (append_assoc c.args.side.now nodes (codes "\n")) c.in_ok-write_text.ensures.ok c.in_ok-write_list.ensures.ok
    c.write_text-2.ensures.refused
