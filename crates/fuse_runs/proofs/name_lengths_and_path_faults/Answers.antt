use Rattle.std.proofs.Common.{refl}
use Rattle.fuse_runs.proofs.name_lengths_and_path_faults.Goals as goal

pub returns : goal.returns
returns g = (refl, refl)
