use Rattle.std.proofs.Common.{◌++◌, append_assoc, sym, codes, decimal}
use Rattle.fuse_text.proofs.Writes.{OnErr-always, refused_then, some_first}
use Rattle.fw_drive.proofs.Texts.{taken_then}
use Rattle.fw_drive.proofs.printing.print_numbers.Goals as goal

pub returns-in_err-print_counted-clause-refused : goal.returns-in_err-print_counted-clause-refused
returns-in_err-print_counted-clause-refused g c =
    OnErr-always _ _ (some_first _ _ (c.args.words.now ++ decimal c.args.number) (c.args.more.now ++ (decimal c.args.last ++ codes "\n")) _ (sym (append_assoc c.args.words.now (decimal c.args.number) (c.args.more.now ++ (decimal c.args.last ++ codes "\n")))) c.in_err-print_counted.ensures.refused)

pub returns-clause-refused : goal.returns-clause-refused
returns-clause-refused g c =
    refused_then c.print_between.result _ _ _ (c.args.words.now ++ decimal c.args.number) (c.args.more.now ++ (decimal c.args.last ++ codes "\n")) _ (sym (append_assoc c.args.words.now (decimal c.args.number) (c.args.more.now ++ (decimal c.args.last ++ codes "\n")))) c.in_ok-print_counted.ensures.ok c.print_between.ensures.refused

pub returns-clause-ok : goal.returns-clause-ok
returns-clause-ok g c =
    taken_then c.print_between.result _ _ _ (c.args.words.now ++ decimal c.args.number) (c.args.more.now ++ (decimal c.args.last ++ codes "\n")) _ (sym (append_assoc c.args.words.now (decimal c.args.number) (c.args.more.now ++ (decimal c.args.last ++ codes "\n")))) c.in_ok-print_counted.ensures.ok c.print_between.ensures.ok
