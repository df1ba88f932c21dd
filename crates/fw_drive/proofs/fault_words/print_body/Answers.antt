use Rattle.std.proofs.Common.{codes, refl, ◌++◌}
use Rattle.fw_drive.specs.Faults.{request_words, size_words}
use Rattle.fuse_text.proofs.Writes.{OnErr-always, refused_then, some_first}
use Rattle.fw_drive.proofs.Texts.{taken_then}
use Rattle.fw_drive.proofs.fault_words.print_body.Goals as goal

pub returns-in_err-print_named-clause-refused : goal.returns-in_err-print_named-clause-refused
returns-in_err-print_named-clause-refused g c =
    OnErr-always _ _ (some_first _ _ (codes "body is not its request's: " ++ request_words c.args.request) (size_words c.args.size) _ (refl) c.in_err-print_named.ensures.refused)

pub returns-clause-refused : goal.returns-clause-refused
returns-clause-refused g c =
    refused_then c.print_size.result _ _ _ (codes "body is not its request's: " ++ request_words c.args.request) (size_words c.args.size) _ (refl) c.in_ok-print_named.ensures.ok c.print_size.ensures.refused

pub returns-clause-ok : goal.returns-clause-ok
returns-clause-ok g c =
    taken_then c.print_size.result _ _ _ (codes "body is not its request's: " ++ request_words c.args.request) (size_words c.args.size) _ (refl) c.in_ok-print_named.ensures.ok c.print_size.ensures.ok
