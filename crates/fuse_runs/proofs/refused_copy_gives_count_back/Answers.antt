use Rattle.std.proofs.Common.{refl}
use Rattle.fuse_runs.proofs.refused_copy_gives_count_back.Goals as goal

pub returns : goal.returns
returns g = ((refl, refl), refl, (refl, refl), refl, (refl, refl), refl)
