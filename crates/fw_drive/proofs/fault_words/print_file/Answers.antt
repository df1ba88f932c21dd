use Rattle.std.proofs.Common.{codes, decimal, refl, ◌++◌}
use Rattle.fw_script.specs.Records.{kind_word}
use Rattle.fuse_text.proofs.Writes.{OnErr-always, refused_then, some_first}
use Rattle.fw_drive.proofs.Texts.{taken_then}
use Rattle.fw_drive.proofs.fault_words.print_file.Goals as goal

pub returns-in_err-print_kind-clause-refused : goal.returns-in_err-print_kind-clause-refused
returns-in_err-print_kind-clause-refused g c =
    OnErr-always _ _ (some_first _ _ (kind_word c.args.file.kind) (codes " " ++ decimal c.args.file.ino) _ (refl) c.in_err-print_kind.ensures.refused)

pub returns-clause-refused : goal.returns-clause-refused
returns-clause-refused g c =
    refused_then c.print_counted.result _ _ _ (kind_word c.args.file.kind) (codes " " ++ decimal c.args.file.ino) _ (refl) c.in_ok-print_kind.ensures.ok c.print_counted.ensures.refused

pub returns-clause-ok : goal.returns-clause-ok
returns-clause-ok g c =
    taken_then c.print_counted.result _ _ _ (kind_word c.args.file.kind) (codes " " ++ decimal c.args.file.ino) _ (refl) c.in_ok-print_kind.ensures.ok c.print_counted.ensures.ok
