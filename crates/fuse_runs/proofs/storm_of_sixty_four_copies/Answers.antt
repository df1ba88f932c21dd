use Rattle.std.proofs.Common.{refl}
use Rattle.fuse_runs.proofs.storm_of_sixty_four_copies.Goals as goal

pub returns : goal.returns
returns g = ((refl, refl), refl, (refl, refl), refl, (refl, refl), refl)
