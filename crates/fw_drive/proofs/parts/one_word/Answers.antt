use Rattle.std.proofs.Common.{length, ap, arith}
use Rattle.fuse_text.proofs.Splitting.{words_of_some}
use Rattle.fw_drive.proofs.parts.one_word.Goals as goal

pub returns-in_default-Some : goal.returns-in_default-Some
returns-in_default-Some c word only =
    let one = rw c.in_ok-rest.was at only in
    let two = rw (c.split_word.ensures, c.in_default-Some.is-1) at one in
    let some = words_of_some c.in_default-Some.field-0-1.now in
    let same = ap length two in
    omega (arith, some, same)
