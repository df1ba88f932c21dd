use Rattle.std.proofs.Common.{refl}
use Rattle.fuse_runs.proofs.walk_of_two_words_and_expiry.Goals as goal

pub returns : goal.returns
returns g = (refl, refl)
