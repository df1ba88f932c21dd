use Rattle.std.proofs.Common.{refl}
use Rattle.fuse_runs.proofs.abort_after_do_and_remount.Goals as goal

pub returns : goal.returns
returns g = ((refl, refl), refl)
