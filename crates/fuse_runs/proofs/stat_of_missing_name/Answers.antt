use Rattle.std.proofs.Common.{refl}
use Rattle.fuse_runs.proofs.stat_of_missing_name.Goals as goal

pub returns : goal.returns
returns g = (refl, refl)
