use Rattle.std.proofs.Common.{refl}
use Rattle.fuse_runs.proofs.batch_forget.Goals as goal

pub returns : goal.returns
returns g = (refl, refl)
