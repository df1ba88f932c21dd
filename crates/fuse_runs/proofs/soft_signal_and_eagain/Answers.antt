use Rattle.std.proofs.Common.{refl}
use Rattle.fuse_runs.proofs.soft_signal_and_eagain.Goals as goal

pub returns : goal.returns
returns g = (refl, refl)
