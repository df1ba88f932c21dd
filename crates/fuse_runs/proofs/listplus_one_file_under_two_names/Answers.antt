use Rattle.std.proofs.Common.{refl}
use Rattle.fuse_runs.proofs.listplus_one_file_under_two_names.Goals as goal

pub returns : goal.returns
returns g = ((refl, refl), refl)
