use Rattle.fuse_theorem.proofs.Nodes.NodesKnown.{first_known, nodes_stay_known}
use Rattle.fuse_theorem.proofs.every_list.nodes_stay_known.Goals as goal

pub returns-clause-at_first : goal.returns-clause-at_first
returns-clause-at_first g = first_known

pub returns-clause-always : goal.returns-clause-always
returns-clause-always g = λ w sound old e o after happens. nodes_stay_known w sound old e o after happens
