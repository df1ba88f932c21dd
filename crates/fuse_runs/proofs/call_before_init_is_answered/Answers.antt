use Rattle.std.proofs.Common.{refl}
use Rattle.fuse_runs.proofs.call_before_init_is_answered.Goals as goal

pub returns : goal.returns
returns g = (refl, refl)
