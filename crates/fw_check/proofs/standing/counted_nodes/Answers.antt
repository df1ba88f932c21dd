use Rattle.fw_check.proofs.StandingLaws.{node_members}
use Rattle.fw_check.proofs.standing.counted_nodes.Goals as goal

pub returns : goal.returns
returns g c s stands = c.held_keys.ensures _ (node_members s c.args.standing.now.nodes.entries stands.nodes_held)
