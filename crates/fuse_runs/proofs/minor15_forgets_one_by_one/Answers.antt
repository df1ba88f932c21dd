use Rattle.std.proofs.Common.{refl}
use Rattle.fuse_runs.proofs.minor15_forgets_one_by_one.Goals as goal

pub returns : goal.returns
returns g = ((refl, refl), refl)
