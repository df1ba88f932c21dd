use Rattle.std.proofs.Common.{codes, refl}
use Rattle.fw_drive.specs.Faults.{fault_words}
use Rattle.fuse_text.proofs.Writes.{OnErr-always, refused_then, some_first}
use Rattle.fw_drive.proofs.Texts.{taken_then}
use Rattle.fw_drive.proofs.fault_words.print_fault.Goals as goal

pub returns-in_err-print_fault_words-clause-refused : goal.returns-in_err-print_fault_words-clause-refused
returns-in_err-print_fault_words-clause-refused g c =
    OnErr-always _ _ (some_first _ _ (fault_words c.args.fault) (codes "\n") _ (refl) c.in_err-print_fault_words.ensures.refused)

pub returns-clause-refused : goal.returns-clause-refused
returns-clause-refused g c =
    refused_then c.write_text.result _ _ _ (fault_words c.args.fault) (codes "\n") _ (refl) c.in_ok-print_fault_words.ensures.ok c.write_text.ensures.refused

pub returns-clause-ok : goal.returns-clause-ok
returns-clause-ok g c =
    taken_then c.write_text.result _ _ _ (fault_words c.args.fault) (codes "\n") _ (refl) c.in_ok-print_fault_words.ensures.ok c.write_text.ensures.ok
