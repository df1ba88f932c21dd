use Rattle.std.proofs.Common.{codes, decimal, ◌++◌}
use Rattle.fw_drive.specs.Notes.{errno_words}
use Rattle.fuse_text.proofs.Writes.{OnErr-always, refused_then, some_first}
use Rattle.fw_drive.proofs.Texts.{difference_parts, taken_then}
use Rattle.fw_drive.proofs.difference_words.print_difference.Goals as goal

pub returns-in_err-print_answered-clause-refused : goal.returns-in_err-print_answered-clause-refused
returns-in_err-print_answered-clause-refused g c =
    OnErr-always _ _ (some_first _ _ ((codes "differs: answer " ++ (decimal c.args.answered.call ++ codes " (")) ++ (c.args.answered.words.now ++ (codes ", line " ++ (decimal c.args.answered.line ++ codes "): ")))) ((errno_words c.args.errno ++ c.args.words.now) ++ (codes ", here " ++ ((errno_words c.args.errno_here ++ c.args.words_here.now) ++ codes "\n"))) _ (difference_parts c.args.answered.call c.args.answered.words.now c.args.answered.line (errno_words c.args.errno ++ c.args.words.now) (errno_words c.args.errno_here ++ c.args.words_here.now)) c.in_err-print_answered.ensures.refused)

pub returns-clause-refused : goal.returns-clause-refused
returns-clause-refused g c =
    refused_then c.print_answers.result _ _ _ ((codes "differs: answer " ++ (decimal c.args.answered.call ++ codes " (")) ++ (c.args.answered.words.now ++ (codes ", line " ++ (decimal c.args.answered.line ++ codes "): ")))) ((errno_words c.args.errno ++ c.args.words.now) ++ (codes ", here " ++ ((errno_words c.args.errno_here ++ c.args.words_here.now) ++ codes "\n"))) _ (difference_parts c.args.answered.call c.args.answered.words.now c.args.answered.line (errno_words c.args.errno ++ c.args.words.now) (errno_words c.args.errno_here ++ c.args.words_here.now)) c.in_ok-print_answered.ensures.ok c.print_answers.ensures.refused

pub returns-clause-ok : goal.returns-clause-ok
returns-clause-ok g c =
    taken_then c.print_answers.result _ _ _ ((codes "differs: answer " ++ (decimal c.args.answered.call ++ codes " (")) ++ (c.args.answered.words.now ++ (codes ", line " ++ (decimal c.args.answered.line ++ codes "): ")))) ((errno_words c.args.errno ++ c.args.words.now) ++ (codes ", here " ++ ((errno_words c.args.errno_here ++ c.args.words_here.now) ++ codes "\n"))) _ (difference_parts c.args.answered.call c.args.answered.words.now c.args.answered.line (errno_words c.args.errno ++ c.args.words.now) (errno_words c.args.errno_here ++ c.args.words_here.now)) c.in_ok-print_answered.ensures.ok c.print_answers.ensures.ok
