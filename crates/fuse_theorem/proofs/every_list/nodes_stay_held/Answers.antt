use Rattle.fuse_theorem.proofs.Nodes.NodesHeld.{nodes_held}
use Rattle.fuse_theorem.proofs.Nodes.TakenStay.{first_taken, taken_stay_servable}
use Rattle.fuse_theorem.proofs.every_list.nodes_stay_held.Goals as goal

pub returns-clause-at_first : goal.returns-clause-at_first
returns-clause-at_first g = first_taken

pub returns-clause-always : goal.returns-clause-always
returns-clause-always g =
    λ w sound asked links nodes held releases old e o after happens. taken_stay_servable w sound asked links nodes held releases old e o after happens

pub returns-clause-held : goal.returns-clause-held
returns-clause-held g = λ w p both releases taken. nodes_held w p both releases taken
