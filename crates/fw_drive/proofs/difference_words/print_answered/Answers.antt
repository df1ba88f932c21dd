use Rattle.std.proofs.Common.{codes, decimal, refl, ◌++◌}
use Rattle.fuse_text.proofs.Writes.{OnErr-always, refused_then, some_first}
use Rattle.fw_drive.proofs.Texts.{taken_then}
use Rattle.fw_drive.proofs.difference_words.print_answered.Goals as goal

pub returns-in_err-print_between-clause-refused : goal.returns-in_err-print_between-clause-refused
returns-in_err-print_between-clause-refused g c =
    OnErr-always _ _ (some_first _ _ (codes "differs: answer " ++ (decimal c.args.answered.call ++ codes " (")) (c.args.answered.words.now ++ (codes ", line " ++ (decimal c.args.answered.line ++ codes "): "))) _ (refl) c.in_err-print_between.ensures.refused)

pub returns-clause-refused : goal.returns-clause-refused
returns-clause-refused g c =
    refused_then c.print_words.result _ _ _ (codes "differs: answer " ++ (decimal c.args.answered.call ++ codes " (")) (c.args.answered.words.now ++ (codes ", line " ++ (decimal c.args.answered.line ++ codes "): "))) _ (refl) c.in_ok-print_between.ensures.ok c.print_words.ensures.refused

pub returns-clause-ok : goal.returns-clause-ok
returns-clause-ok g c =
    taken_then c.print_words.result _ _ _ (codes "differs: answer " ++ (decimal c.args.answered.call ++ codes " (")) (c.args.answered.words.now ++ (codes ", line " ++ (decimal c.args.answered.line ++ codes "): "))) _ (refl) c.in_ok-print_between.ensures.ok c.print_words.ensures.ok
