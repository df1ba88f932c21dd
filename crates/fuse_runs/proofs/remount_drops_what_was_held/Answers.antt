use Rattle.std.proofs.Common.{refl}
use Rattle.fuse_runs.proofs.remount_drops_what_was_held.Goals as goal

pub returns : goal.returns
returns g = (refl, refl)
