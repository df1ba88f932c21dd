use Rattle.fuse_theorem.proofs.Lookups.AtRest.{same_node}
use Rattle.fuse_theorem.proofs.any_event.same_nodes_at_rest.Goals as goal

pub returns : goal.returns
returns g = λ w sound rest id. same_node w sound rest id
