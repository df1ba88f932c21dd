use Rattle.std.proofs.Common.{refl}
use Rattle.fw_drive.specs.Notes.{errno_words}
use Rattle.fuse_text.proofs.Writes.{OnErr-always, refused_then, some_first}
use Rattle.fw_drive.proofs.Texts.{taken_then}
use Rattle.fw_drive.proofs.difference_words.print_answer.Goals as goal

pub returns-in_err-print_errno-clause-refused : goal.returns-in_err-print_errno-clause-refused
returns-in_err-print_errno-clause-refused g c =
    OnErr-always _ _ (some_first _ _ (errno_words c.args.errno) (c.args.words.now) _ (refl) c.in_err-print_errno.ensures.refused)

pub returns-clause-refused : goal.returns-clause-refused
returns-clause-refused g c =
    refused_then c.write_text.result _ _ _ (errno_words c.args.errno) (c.args.words.now) _ (refl) c.in_ok-print_errno.ensures.ok c.write_text.ensures.refused

pub returns-clause-ok : goal.returns-clause-ok
returns-clause-ok g c =
    taken_then c.write_text.result _ _ _ (errno_words c.args.errno) (c.args.words.now) _ (refl) c.in_ok-print_errno.ensures.ok c.write_text.ensures.ok
