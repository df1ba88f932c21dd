use Rattle.std.proofs.Common.{refl}
use Rattle.fuse_runs.proofs.counts_of_two_lookups_and_exact_forget.Goals as goal

pub returns : goal.returns
returns g = ((refl, refl), refl, (refl, refl), refl)
