use Rattle.std.proofs.Common.{refl}
use Rattle.fuse_runs.proofs.dequeued_read_of_a_closed_file.Goals as goal

pub returns : goal.returns
returns g = (refl, refl)
