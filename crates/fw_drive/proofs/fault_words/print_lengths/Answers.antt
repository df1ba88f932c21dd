use Rattle.std.proofs.Common.{codes, decimal, ◌++◌}
use Rattle.fuse_text.proofs.Writes.{OnErr-always, refused_then, some_first}
use Rattle.fw_drive.proofs.Texts.{five_parts, taken_then}
use Rattle.fw_drive.proofs.fault_words.print_lengths.Goals as goal

pub returns-in_err-print_counted-clause-refused : goal.returns-in_err-print_counted-clause-refused
returns-in_err-print_counted-clause-refused g c =
    OnErr-always _ _ (some_first _ _ (codes "len " ++ decimal c.args.said) (codes " of " ++ (decimal c.args.len ++ codes " bytes")) _ (five_parts (codes "len ") (decimal c.args.said) (codes " of ") (decimal c.args.len) (codes " bytes")) c.in_err-print_counted.ensures.refused)

pub returns-clause-refused : goal.returns-clause-refused
returns-clause-refused g c =
    refused_then c.print_between.result _ _ _ (codes "len " ++ decimal c.args.said) (codes " of " ++ (decimal c.args.len ++ codes " bytes")) _ (five_parts (codes "len ") (decimal c.args.said) (codes " of ") (decimal c.args.len) (codes " bytes")) c.in_ok-print_counted.ensures.ok c.print_between.ensures.refused

pub returns-clause-ok : goal.returns-clause-ok
returns-clause-ok g c =
    taken_then c.print_between.result _ _ _ (codes "len " ++ decimal c.args.said) (codes " of " ++ (decimal c.args.len ++ codes " bytes")) _ (five_parts (codes "len ") (decimal c.args.said) (codes " of ") (decimal c.args.len) (codes " bytes")) c.in_ok-print_counted.ensures.ok c.print_between.ensures.ok
