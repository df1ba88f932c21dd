use Rattle.std.proofs.Common.{◌≡◌, ℕ, Bor, List, [], Option, Some, None, true, length, ap, arith}
use Rattle.std.specs.Prelude.{is_some, option_copied}
use Rattle.fuse_text.specs.Words.{words_left}
use Rattle.fuse_capture.proofs.ResultLaws.{no_result}
use Rattle.fuse_text.proofs.Splitting.{words_of_some}
use Rattle.fuse_capture.proofs.outcome.read_taken.Goals as goal

some_words : (rest : Option (Bor (List ℕ))) → is_some rest ≡ true → words_left (option_copied rest) ≡ [] → ⊥
some_words None h e = cc
some_words (Some text) h e = let some = words_of_some text.now in let none = ap length e in omega (arith, some, none)

pub returns-in-None : goal.returns-in-None
returns-in-None c = no_result _ (some_words c.args.rest c.if-is_none.ensures) c.in-None.ensures
