use Rattle.std.proofs.Common.{codes, refl}
use Rattle.fw_drive.specs.Faults.{file_words}
use Rattle.fuse_text.proofs.Writes.{OnErr-always, refused_then, some_first}
use Rattle.fw_drive.proofs.Texts.{taken_then}
use Rattle.fw_drive.proofs.fault_words.print_given.Goals as goal

pub returns-in_err-write_text-clause-refused : goal.returns-in_err-write_text-clause-refused
returns-in_err-write_text-clause-refused g c =
    OnErr-always _ _ (some_first _ _ (codes ": ") (file_words c.args.file) _ (refl) c.in_err-write_text.ensures.refused)

pub returns-clause-refused : goal.returns-clause-refused
returns-clause-refused g c =
    refused_then c.print_file.result _ _ _ (codes ": ") (file_words c.args.file) _ (refl) c.in_ok-write_text.ensures.ok c.print_file.ensures.refused

pub returns-clause-ok : goal.returns-clause-ok
returns-clause-ok g c =
    taken_then c.print_file.result _ _ _ (codes ": ") (file_words c.args.file) _ (refl) c.in_ok-write_text.ensures.ok c.print_file.ensures.ok
