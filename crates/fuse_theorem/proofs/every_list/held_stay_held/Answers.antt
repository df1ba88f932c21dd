use Rattle.fuse_theorem.proofs.Nodes.StillHeld.{first_still_held, held_stay_held, now_still_held}
use Rattle.fuse_theorem.proofs.every_list.held_stay_held.Goals as goal

pub returns-clause-at_first : goal.returns-clause-at_first
returns-clause-at_first g = first_still_held

pub returns-clause-always : goal.returns-clause-always
returns-clause-always g =
    λ w sound asked links known releases old e o after happens. held_stay_held w sound asked links known releases old e o after happens

pub returns-clause-held : goal.returns-clause-held
returns-clause-held g = λ w sound asked links known releases old unique t there. now_still_held w sound asked links known releases old unique t there
