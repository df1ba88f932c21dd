use Rattle.std.proofs.Common.{codes, decimal, refl, ◌++◌}
use Rattle.fw_drive.specs.Faults.{request_words}
use Rattle.fuse_text.proofs.Writes.{OnErr-always, refused_then, some_first}
use Rattle.fw_drive.proofs.Texts.{taken_then}
use Rattle.fw_drive.proofs.fault_words.print_node.Goals as goal

pub returns-in_err-print_counted-clause-refused : goal.returns-in_err-print_counted-clause-refused
returns-in_err-print_counted-clause-refused g c =
    OnErr-always _ _ (some_first _ _ (codes "node " ++ decimal c.args.node) (c.args.words.now ++ request_words c.args.request) _ (refl) c.in_err-print_counted.ensures.refused)

pub returns-clause-refused : goal.returns-clause-refused
returns-clause-refused g c =
    refused_then c.print_named.result _ _ _ (codes "node " ++ decimal c.args.node) (c.args.words.now ++ request_words c.args.request) _ (refl) c.in_ok-print_counted.ensures.ok c.print_named.ensures.refused

pub returns-clause-ok : goal.returns-clause-ok
returns-clause-ok g c =
    taken_then c.print_named.result _ _ _ (codes "node " ++ decimal c.args.node) (c.args.words.now ++ request_words c.args.request) _ (refl) c.in_ok-print_counted.ensures.ok c.print_named.ensures.ok
