use Rattle.std.proofs.Common.{codes, refl}
use Rattle.fw_drive.specs.Faults.{files_words, node_words}
use Rattle.fuse_text.proofs.Writes.{OnErr-always, refused_then, some_first}
use Rattle.fw_drive.proofs.Texts.{taken_then}
use Rattle.fw_drive.proofs.fault_words.print_two_files.Goals as goal

pub returns-in_err-print_node-clause-refused : goal.returns-in_err-print_node-clause-refused
returns-in_err-print_node-clause-refused g c =
    OnErr-always _ _ (some_first _ _ (node_words c.args.node (codes " given for two files at once: ") c.args.request) (files_words c.args.given c.args.before) _ (refl) c.in_err-print_node.ensures.refused)

pub returns-clause-refused : goal.returns-clause-refused
returns-clause-refused g c =
    refused_then c.print_files.result _ _ _ (node_words c.args.node (codes " given for two files at once: ") c.args.request) (files_words c.args.given c.args.before) _ (refl) c.in_ok-print_node.ensures.ok c.print_files.ensures.refused

pub returns-clause-ok : goal.returns-clause-ok
returns-clause-ok g c =
    taken_then c.print_files.result _ _ _ (node_words c.args.node (codes " given for two files at once: ") c.args.request) (files_words c.args.given c.args.before) _ (refl) c.in_ok-print_node.ensures.ok c.print_files.ensures.ok
