use Rattle.std.proofs.Common.{codes, refl, ◌++◌}
use Rattle.fw_drive.specs.Notes.{errno_words}
use Rattle.fuse_text.proofs.Writes.{OnErr-always, refused_then, some_first}
use Rattle.fw_drive.proofs.Texts.{taken_then}
use Rattle.fw_drive.proofs.difference_words.print_answers.Goals as goal

pub returns-in_err-print_answer-clause-refused : goal.returns-in_err-print_answer-clause-refused
returns-in_err-print_answer-clause-refused g c =
    OnErr-always _ _ (some_first _ _ (errno_words c.args.errno ++ c.args.words.now) (codes ", here " ++ ((errno_words c.args.errno_here ++ c.args.words_here.now) ++ codes "\n")) _ (refl) c.in_err-print_answer.ensures.refused)

pub returns-clause-refused : goal.returns-clause-refused
returns-clause-refused g c =
    refused_then c.print_here.result _ _ _ (errno_words c.args.errno ++ c.args.words.now) (codes ", here " ++ ((errno_words c.args.errno_here ++ c.args.words_here.now) ++ codes "\n")) _ (refl) c.in_ok-print_answer.ensures.ok c.print_here.ensures.refused

pub returns-clause-ok : goal.returns-clause-ok
returns-clause-ok g c =
    taken_then c.print_here.result _ _ _ (errno_words c.args.errno ++ c.args.words.now) (codes ", here " ++ ((errno_words c.args.errno_here ++ c.args.words_here.now) ++ codes "\n")) _ (refl) c.in_ok-print_answer.ensures.ok c.print_here.ensures.ok
