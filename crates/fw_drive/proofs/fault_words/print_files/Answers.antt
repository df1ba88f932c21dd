use Rattle.std.proofs.Common.{codes, refl, ◌++◌}
use Rattle.fw_drive.specs.Faults.{file_words}
use Rattle.fuse_text.proofs.Writes.{OnErr-always, refused_then, some_first}
use Rattle.fw_drive.proofs.Texts.{taken_then}
use Rattle.fw_drive.proofs.fault_words.print_files.Goals as goal

pub returns-in_err-print_given-clause-refused : goal.returns-in_err-print_given-clause-refused
returns-in_err-print_given-clause-refused g c =
    OnErr-always _ _ (some_first _ _ (codes ": " ++ file_words c.args.given) (codes ", before " ++ file_words c.args.before) _ (refl) c.in_err-print_given.ensures.refused)

pub returns-clause-refused : goal.returns-clause-refused
returns-clause-refused g c =
    refused_then c.print_before.result _ _ _ (codes ": " ++ file_words c.args.given) (codes ", before " ++ file_words c.args.before) _ (refl) c.in_ok-print_given.ensures.ok c.print_before.ensures.refused

pub returns-clause-ok : goal.returns-clause-ok
returns-clause-ok g c =
    taken_then c.print_before.result _ _ _ (codes ": " ++ file_words c.args.given) (codes ", before " ++ file_words c.args.before) _ (refl) c.in_ok-print_given.ensures.ok c.print_before.ensures.ok
