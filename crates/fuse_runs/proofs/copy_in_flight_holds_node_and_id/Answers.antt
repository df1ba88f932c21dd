use Rattle.std.proofs.Common.{refl}
use Rattle.fuse_runs.proofs.copy_in_flight_holds_node_and_id.Goals as goal

pub returns : goal.returns
returns g = ((refl, refl), refl, (refl, refl), refl, (refl, refl), refl)
