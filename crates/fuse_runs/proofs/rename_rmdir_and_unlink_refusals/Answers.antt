use Rattle.std.proofs.Common.{refl}
use Rattle.fuse_runs.proofs.rename_rmdir_and_unlink_refusals.Goals as goal

pub returns : goal.returns
returns g = (refl, refl)
