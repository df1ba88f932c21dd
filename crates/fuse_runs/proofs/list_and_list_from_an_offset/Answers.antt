use Rattle.std.proofs.Common.{refl}
use Rattle.fuse_runs.proofs.list_and_list_from_an_offset.Goals as goal

pub returns : goal.returns
returns g = (refl, refl)
