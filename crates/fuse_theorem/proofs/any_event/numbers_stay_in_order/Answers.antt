use Rattle.fuse_theorem.proofs.Requests.NumbersStay.{first_numbers, numbers_stay}
use Rattle.fuse_theorem.proofs.any_event.numbers_stay_in_order.Goals as goal

pub returns-clause-at_first : goal.returns-clause-at_first
returns-clause-at_first g = first_numbers

pub returns-clause-always : goal.returns-clause-always
returns-clause-always g = λ choice w numbered o after e stepped. numbers_stay choice w numbered e o after stepped
