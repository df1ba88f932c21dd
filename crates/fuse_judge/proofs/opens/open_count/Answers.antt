use Rattle.std.proofs.Common.{◌∙◌}
use Rattle.fuse_judge.proofs.opens.open_count.Goals as goal

pub returns : goal.returns
returns g c = λ s are. (rw c.handle_of.ensures at c.count.ensures) ∙ are.open_count c.args.file
