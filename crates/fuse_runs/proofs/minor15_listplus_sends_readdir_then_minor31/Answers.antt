use Rattle.std.proofs.Common.{refl}
use Rattle.fuse_runs.proofs.minor15_listplus_sends_readdir_then_minor31.Goals as goal

pub returns : goal.returns
returns g = ((refl, refl), refl, (refl, refl), refl)
