use Rattle.std.proofs.Common.{codes, decimal, refl, ◌++◌}
use Rattle.fw_drive.specs.Faults.{asks_word}
use Rattle.fuse_text.proofs.Writes.{OnErr-always, refused_then, some_first}
use Rattle.fw_drive.proofs.Texts.{taken_then}
use Rattle.fw_drive.proofs.request_words.print_asked.Goals as goal

pub returns-in_err-print_asks-clause-refused : goal.returns-in_err-print_asks-clause-refused
returns-in_err-print_asks-clause-refused g c =
    OnErr-always _ _ (some_first _ _ (asks_word c.args.asks) (codes " " ++ decimal c.args.unique) _ (refl) c.in_err-print_asks.ensures.refused)

pub returns-clause-refused : goal.returns-clause-refused
returns-clause-refused g c =
    refused_then c.print_counted.result _ _ _ (asks_word c.args.asks) (codes " " ++ decimal c.args.unique) _ (refl) c.in_ok-print_asks.ensures.ok c.print_counted.ensures.refused

pub returns-clause-ok : goal.returns-clause-ok
returns-clause-ok g c =
    taken_then c.print_counted.result _ _ _ (asks_word c.args.asks) (codes " " ++ decimal c.args.unique) _ (refl) c.in_ok-print_asks.ensures.ok c.print_counted.ensures.ok
