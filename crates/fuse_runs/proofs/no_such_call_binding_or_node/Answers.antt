use Rattle.std.proofs.Common.{refl}
use Rattle.fuse_runs.proofs.no_such_call_binding_or_node.Goals as goal

pub returns : goal.returns
returns g = (refl, refl)
