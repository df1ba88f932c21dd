use Rattle.std.proofs.Common.{refl}
use Rattle.fuse_runs.proofs.sixty_four_calls_then_full.Goals as goal

pub returns : goal.returns
returns g = (refl, refl)
