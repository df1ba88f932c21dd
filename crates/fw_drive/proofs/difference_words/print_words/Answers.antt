use Rattle.std.proofs.Common.{codes, decimal, refl, ◌++◌}
use Rattle.fuse_text.proofs.Writes.{OnErr-always, refused_then, some_first}
use Rattle.fw_drive.proofs.Texts.{taken_then}
use Rattle.fw_drive.proofs.difference_words.print_words.Goals as goal

pub returns-in_err-write_text-clause-refused : goal.returns-in_err-write_text-clause-refused
returns-in_err-write_text-clause-refused g c =
    OnErr-always _ _ (some_first _ _ (c.args.words.now) (codes ", line " ++ (decimal c.args.line ++ codes "): ")) _ (refl) c.in_err-write_text.ensures.refused)

pub returns-clause-refused : goal.returns-clause-refused
returns-clause-refused g c =
    refused_then c.print_between.result _ _ _ (c.args.words.now) (codes ", line " ++ (decimal c.args.line ++ codes "): ")) _ (refl) c.in_ok-write_text.ensures.ok c.print_between.ensures.refused

pub returns-clause-ok : goal.returns-clause-ok
returns-clause-ok g c =
    taken_then c.print_between.result _ _ _ (c.args.words.now) (codes ", line " ++ (decimal c.args.line ++ codes "): ")) _ (refl) c.in_ok-write_text.ensures.ok c.print_between.ensures.ok
