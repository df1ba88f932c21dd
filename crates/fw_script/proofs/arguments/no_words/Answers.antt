use Rattle.std.proofs.Common.{arith}
use Rattle.fuse_text.proofs.Splitting.{words_of_some}
use Rattle.fw_script.proofs.arguments.no_words.Goals as goal

pub returns-in-Some : goal.returns-in-Some
returns-in-Some c =
    rw c.in-Some.is (λ has. let counted = words_of_some c.in-Some.field-0.now in omega (arith, counted, has.0.0))
