use Rattle.std.proofs.Common.{List, ap, append_assoc, codes, decimal, ℕ, ◌++◌}
use Rattle.fuse_text.proofs.Writes.{OnErr-always, refused_then, some_first}
use Rattle.fw_drive.proofs.Texts.{taken_then}
use Rattle.fw_drive.proofs.fault_words.print_generations.Goals as goal

pub returns-in_err-print_between-clause-refused : goal.returns-in_err-print_between-clause-refused
returns-in_err-print_between-clause-refused g c =
    OnErr-always _ _ (some_first _ _ (codes ": " ++ (decimal c.args.given ++ codes ", before ")) (decimal c.args.before) _ (ap (λ (l : List ℕ). l ++ decimal c.args.before) (append_assoc (codes ": ") (decimal c.args.given) (codes ", before "))) c.in_err-print_between.ensures.refused)

pub returns-clause-refused : goal.returns-clause-refused
returns-clause-refused g c =
    refused_then c.write_number.result _ _ _ (codes ": " ++ (decimal c.args.given ++ codes ", before ")) (decimal c.args.before) _ (ap (λ (l : List ℕ). l ++ decimal c.args.before) (append_assoc (codes ": ") (decimal c.args.given) (codes ", before "))) c.in_ok-print_between.ensures.ok c.write_number.ensures.refused

pub returns-clause-ok : goal.returns-clause-ok
returns-clause-ok g c =
    taken_then c.write_number.result _ _ _ (codes ": " ++ (decimal c.args.given ++ codes ", before ")) (decimal c.args.before) _ (ap (λ (l : List ℕ). l ++ decimal c.args.before) (append_assoc (codes ": ") (decimal c.args.given) (codes ", before "))) c.in_ok-print_between.ensures.ok c.write_number.ensures.ok
