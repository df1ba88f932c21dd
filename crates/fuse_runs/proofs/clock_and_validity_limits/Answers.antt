use Rattle.std.proofs.Common.{refl}
use Rattle.fuse_runs.proofs.clock_and_validity_limits.Goals as goal

pub returns : goal.returns
returns g = (refl, refl)
