use Rattle.std.proofs.Common.{arith}
use Rattle.std.proofs.lemmas.Grind.{common_steps}
use Rattle.fuse_text.proofs.Splitting.{split_at_position}
use Rattle.fuse_text.proofs.split.split_at_first.Goals as goal

pub returns-in-Some : goal.returns-in-Some
returns-in-Some c =
    let h = rw c.in-Some.is at
    (split_at_position c.args.separator c.args.text.now c.args.first c.requires) in
    grind (arith, common_steps, h.1)

pub returns-in-None : goal.returns-in-None
returns-in-None c =
    rw c.in-None.is at (split_at_position c.args.separator c.args.text.now c.args.first c.requires)
