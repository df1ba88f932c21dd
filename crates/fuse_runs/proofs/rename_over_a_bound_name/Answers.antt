use Rattle.std.proofs.Common.{refl}
use Rattle.fuse_runs.proofs.rename_over_a_bound_name.Goals as goal

pub returns : goal.returns
returns g = (refl, refl)
