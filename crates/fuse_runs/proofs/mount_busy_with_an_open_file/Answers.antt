use Rattle.std.proofs.Common.{refl}
use Rattle.fuse_runs.proofs.mount_busy_with_an_open_file.Goals as goal

pub returns : goal.returns
returns g = (refl, refl)
