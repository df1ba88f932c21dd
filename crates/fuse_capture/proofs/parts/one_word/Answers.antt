use Rattle.std.proofs.Common.{length, ap, arith}
use Rattle.fuse_text.proofs.Splitting.{words_of_some}
use Rattle.fuse_capture.proofs.parts.one_word.Goals as goal

pub returns-in_default-Some : goal.returns-in_default-Some
returns-in_default-Some c word only =
    let words = rw c.in_default-Some.is-1 at c.in_ok-word.ensures in
    let some = words_of_some c.in_default-Some.field-0-1.now in
    let one = ap length only in
    let more = ap length words in
    omega (arith, some, one, more)
