use Rattle.std.proofs.Common.{refl}
use Rattle.fuse_runs.proofs.fatal_signals_unread_and_read.Goals as goal

pub returns : goal.returns
returns g = (refl, refl)
