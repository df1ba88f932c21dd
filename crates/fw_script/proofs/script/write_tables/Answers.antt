use Rattle.std.proofs.Common.{codes, refl}
use Rattle.fuse_text.specs.Nodes.{nodes_text}
use Rattle.fuse_text.proofs.Writes.{OnErr-always, refused_then, some_first}
use Rattle.fw_script.proofs.script.write_tables.Goals as goal

pub returns-in_err-write_nodes-clause-refused : goal.returns-in_err-write_nodes-clause-refused
returns-in_err-write_nodes-clause-refused g c =
    OnErr-always _ _ (some_first _ _ (nodes_text (codes "kernel") c.args.kernel.now)
    (nodes_text (codes "server") c.args.server.now) _ refl c.in_err-write_nodes.ensures.refused)

pub returns-clause-refused : goal.returns-clause-refused
returns-clause-refused g c =
    refused_then c.write_nodes-2.result _ _ _ (nodes_text (codes "kernel") c.args.kernel.now)
    (nodes_text (codes "server") c.args.server.now) _ refl c.in_ok-write_nodes.ensures.ok c.write_nodes-2.ensures.refused
