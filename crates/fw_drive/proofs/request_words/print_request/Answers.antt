use Rattle.std.proofs.Common.{codes, decimal, refl, ◌++◌}
use Rattle.fw_drive.specs.Faults.{asks_word, serves_words}
use Rattle.fuse_text.proofs.Writes.{OnErr-always, refused_then, some_first}
use Rattle.fw_drive.proofs.Texts.{taken_then}
use Rattle.fw_drive.proofs.request_words.print_request.Goals as goal

pub returns-in_err-print_asked-clause-refused : goal.returns-in_err-print_asked-clause-refused
returns-in_err-print_asked-clause-refused g c =
    OnErr-always _ _ (some_first _ _ (asks_word c.args.request.asks ++ (codes " " ++ decimal c.args.request.unique)) (serves_words c.args.request.serves) _ (refl) c.in_err-print_asked.ensures.refused)

pub returns-clause-refused : goal.returns-clause-refused
returns-clause-refused g c =
    refused_then c.print_serves.result _ _ _ (asks_word c.args.request.asks ++ (codes " " ++ decimal c.args.request.unique)) (serves_words c.args.request.serves) _ (refl) c.in_ok-print_asked.ensures.ok c.print_serves.ensures.refused

pub returns-clause-ok : goal.returns-clause-ok
returns-clause-ok g c =
    taken_then c.print_serves.result _ _ _ (asks_word c.args.request.asks ++ (codes " " ++ decimal c.args.request.unique)) (serves_words c.args.request.serves) _ (refl) c.in_ok-print_asked.ensures.ok c.print_serves.ensures.ok
