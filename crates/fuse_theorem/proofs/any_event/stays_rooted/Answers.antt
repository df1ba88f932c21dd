use Rattle.std.proofs.Common.{refl}
use Rattle.fuse_theorem.proofs.Nodes.Rooted.{stays_rooted}
use Rattle.fuse_theorem.proofs.any_event.stays_rooted.Goals as goal

pub returns-clause-at_first : goal.returns-clause-at_first
returns-clause-at_first g = record { root = refl; answers = tt }

pub returns-clause-always : goal.returns-clause-always
returns-clause-always g = λ choice w rooted o after e stepped. stays_rooted choice w rooted o after e stepped
