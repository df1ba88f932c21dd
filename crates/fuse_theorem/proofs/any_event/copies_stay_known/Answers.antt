use Rattle.fuse_theorem.proofs.Replies.CopiesSound.{first_copies, copies_stay}
use Rattle.fuse_theorem.proofs.RefusalCases.Happened.{happened}
use Rattle.fuse_theorem.proofs.any_event.copies_stay_known.Goals as goal

pub returns-clause-at_first : goal.returns-clause-at_first
returns-clause-at_first g = first_copies

pub returns-clause-always : goal.returns-clause-always
returns-clause-always g = λ choice w sound server o after e stepped. copies_stay w sound server choice e o after
    (happened choice w o after e stepped)
