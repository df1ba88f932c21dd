use Rattle.std.proofs.Common.{refl}
use Rattle.fuse_runs.proofs.unlink_overtakes_lookup_reply.Goals as goal

pub returns : goal.returns
returns g = (refl, refl)
