use Rattle.std.proofs.Common.{refl}
use Rattle.fuse_runs.proofs.link_counts_the_same_node.Goals as goal

pub returns : goal.returns
returns g = ((refl, refl), refl)
