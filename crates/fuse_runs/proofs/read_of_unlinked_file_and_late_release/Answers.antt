use Rattle.std.proofs.Common.{refl}
use Rattle.fuse_runs.proofs.read_of_unlinked_file_and_late_release.Goals as goal

pub returns : goal.returns
returns g = (refl, refl)
