use Rattle.std.proofs.Common.{refl}
use Rattle.fuse_runs.proofs.write_past_the_largest_file.Goals as goal

pub returns : goal.returns
returns g = (refl, refl)
