use Rattle.std.proofs.Common.{refl}
use Rattle.fuse_runs.proofs.listplus_of_thirty_names_in_two_replies.Goals as goal

pub returns : goal.returns
returns g = (refl, refl)
