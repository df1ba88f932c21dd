use Rattle.std.proofs.Common.{refl}
use Rattle.fuse_runs.proofs.no_copy_after_settle.Goals as goal

pub returns : goal.returns
returns g = ((refl, refl), refl, (refl, refl))
