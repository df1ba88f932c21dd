use Rattle.fuse_theorem.proofs.WholeLists.EveryList.{first_both, both_move, both_met}
use Rattle.fuse_theorem.proofs.every_list.both_stay_sound.Goals as goal

pub returns-clause-at_first : goal.returns-clause-at_first
returns-clause-at_first g = first_both

pub returns-clause-always : goal.returns-clause-always
returns-clause-always g = λ w p both e o after h needs. both_move w p both e o after h needs

pub returns-clause-needs : goal.returns-clause-needs
returns-clause-needs g = λ w p both choice e o after stepped alone. both_met w p both choice e o after stepped alone
