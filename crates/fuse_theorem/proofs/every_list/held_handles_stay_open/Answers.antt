use Rattle.fuse_theorem.proofs.OpenFiles.BalancedNumbers.{balanced_open}
use Rattle.fuse_theorem.proofs.OpenFiles.StillOpen.{first_handles_open, held_handles_stay_open}
use Rattle.fuse_theorem.proofs.every_list.held_handles_stay_open.Goals as goal

pub returns-clause-at_first : goal.returns-clause-at_first
returns-clause-at_first g = first_handles_open

pub returns-clause-always : goal.returns-clause-always
returns-clause-always g =
    λ w sound asked links live_open old e o after happens. held_handles_stay_open w sound asked links live_open old e o after happens

pub returns-clause-balanced : goal.returns-clause-balanced
returns-clause-balanced g =
    λ w p same requests live balance of_releases of_calls. balanced_open w p same requests live balance of_releases of_calls
