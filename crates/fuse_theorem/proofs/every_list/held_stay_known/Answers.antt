use Rattle.fuse_theorem.proofs.Nodes.HeldKnown.{still_held}
use Rattle.fuse_theorem.proofs.Nodes.HeldStays.{first_held, held_stay_known}
use Rattle.fuse_theorem.proofs.Lookups.LookupsStay.{known_held}
use Rattle.fuse_theorem.proofs.every_list.held_stay_known.Goals as goal

pub returns-clause-at_first : goal.returns-clause-at_first
returns-clause-at_first g = first_held

pub returns-clause-always : goal.returns-clause-always
returns-clause-always g =
    λ w sound asked links nodes old e o after happens. held_stay_known w sound asked links nodes old e o after happens

pub returns-clause-still : goal.returns-clause-still
returns-clause-still g = λ w sound old live unique t at operation is. still_held w
    (known_held w sound.lookups) t.generations ((old live unique t at).known operation is)
