use Rattle.std.proofs.Common.{refl}
use Rattle.fuse_runs.proofs.id_used_again_while_older_reply_is_kept.Goals as goal

pub returns : goal.returns
returns g = ((refl, refl), refl)
