use Rattle.fuse_text.proofs.Splitting.{one_more_word}
use Rattle.fuse_text.proofs.word.one_word.Goals as goal

pub returns-in_default-Some : goal.returns-in_default-Some
returns-in_default-Some c h =
    let one = rw c.in_ok-rest.was at h in
    let two = rw (c.split_long_word.ensures, c.in_default-Some.is-1) at one in
    one_more_word _ c.in_default-Some.field-0-1.now two
