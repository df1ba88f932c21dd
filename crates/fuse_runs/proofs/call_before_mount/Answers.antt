use Rattle.std.proofs.Common.{refl}
use Rattle.fuse_runs.proofs.call_before_mount.Goals as goal

pub returns : goal.returns
returns g = (refl, refl)
