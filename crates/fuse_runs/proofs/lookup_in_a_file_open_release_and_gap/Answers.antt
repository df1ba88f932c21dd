use Rattle.std.proofs.Common.{refl}
use Rattle.fuse_runs.proofs.lookup_in_a_file_open_release_and_gap.Goals as goal

pub returns : goal.returns
returns g = (refl, refl)
