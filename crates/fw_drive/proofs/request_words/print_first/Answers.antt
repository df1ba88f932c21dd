use Rattle.std.proofs.Common.{codes, refl, ◌++◌}
use Rattle.fw_drive.specs.Faults.{more_words, request_words}
use Rattle.fuse_text.proofs.Writes.{OnErr-always, refused_then, some_first}
use Rattle.fw_drive.proofs.Texts.{taken_then}
use Rattle.fw_drive.proofs.request_words.print_first.Goals as goal

pub returns-in_err-print_named-clause-refused : goal.returns-in_err-print_named-clause-refused
returns-in_err-print_named-clause-refused g c =
    OnErr-always _ _ (some_first _ _ (codes ": " ++ request_words c.args.waits.first) (more_words c.args.waits.more) _ (refl) c.in_err-print_named.ensures.refused)

pub returns-clause-refused : goal.returns-clause-refused
returns-clause-refused g c =
    refused_then c.print_more.result _ _ _ (codes ": " ++ request_words c.args.waits.first) (more_words c.args.waits.more) _ (refl) c.in_ok-print_named.ensures.ok c.print_more.ensures.refused

pub returns-clause-ok : goal.returns-clause-ok
returns-clause-ok g c =
    taken_then c.print_more.result _ _ _ (codes ": " ++ request_words c.args.waits.first) (more_words c.args.waits.more) _ (refl) c.in_ok-print_named.ensures.ok c.print_more.ensures.ok
