use Rattle.std.proofs.Common.{List, ap, append_assoc, codes, decimal, ℕ, ◌++◌}
use Rattle.fuse_text.proofs.Writes.{OnErr-always, refused_then, some_first}
use Rattle.fw_drive.proofs.Texts.{taken_then}
use Rattle.fw_drive.proofs.request_words.print_call.Goals as goal

pub returns-in_err-print_between-clause-refused : goal.returns-in_err-print_between-clause-refused
returns-in_err-print_between-clause-refused g c =
    OnErr-always _ _ (some_first _ _ (codes " of call " ++ (decimal c.args.name.call ++ codes ", line ")) (decimal c.args.name.line) _ (ap (λ (l : List ℕ). l ++ decimal c.args.name.line) (append_assoc (codes " of call ") (decimal c.args.name.call) (codes ", line "))) c.in_err-print_between.ensures.refused)

pub returns-clause-refused : goal.returns-clause-refused
returns-clause-refused g c =
    refused_then c.write_number.result _ _ _ (codes " of call " ++ (decimal c.args.name.call ++ codes ", line ")) (decimal c.args.name.line) _ (ap (λ (l : List ℕ). l ++ decimal c.args.name.line) (append_assoc (codes " of call ") (decimal c.args.name.call) (codes ", line "))) c.in_ok-print_between.ensures.ok c.write_number.ensures.refused

pub returns-clause-ok : goal.returns-clause-ok
returns-clause-ok g c =
    taken_then c.write_number.result _ _ _ (codes " of call " ++ (decimal c.args.name.call ++ codes ", line ")) (decimal c.args.name.line) _ (ap (λ (l : List ℕ). l ++ decimal c.args.name.line) (append_assoc (codes " of call ") (decimal c.args.name.call) (codes ", line "))) c.in_ok-print_between.ensures.ok c.write_number.ensures.ok
