use Rattle.std.proofs.Common.{refl}
use Rattle.fuse_runs.proofs.interrupt_mark_belongs_to_the_request.Goals as goal

pub returns : goal.returns
returns g = (refl, refl)
