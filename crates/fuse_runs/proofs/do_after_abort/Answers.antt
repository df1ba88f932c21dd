use Rattle.std.proofs.Common.{refl}
use Rattle.fuse_runs.proofs.do_after_abort.Goals as goal

pub returns : goal.returns
returns g = ((refl, refl), refl)
