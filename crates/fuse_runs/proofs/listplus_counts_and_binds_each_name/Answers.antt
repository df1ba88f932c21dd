use Rattle.std.proofs.Common.{refl}
use Rattle.fuse_runs.proofs.listplus_counts_and_binds_each_name.Goals as goal

pub returns : goal.returns
returns g = ((refl, refl), refl, (refl, refl))
