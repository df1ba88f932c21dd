use Rattle.fuse_theorem.proofs.Lookups.ForgetsCounted.{faultless_stay, first_faultless}
use Rattle.fuse_theorem.proofs.Replies.NoFault.{no_fault}
use Rattle.fuse_theorem.proofs.every_list.requests_have_no_fault.Goals as goal

pub returns-clause-at_first : goal.returns-clause-at_first
returns-clause-at_first g = first_faultless

pub returns-clause-always : goal.returns-clause-always
returns-clause-always g =
    λ w sound asked links old e o after happens. faultless_stay w sound asked links old e o after happens

pub returns-clause-no_fault : goal.returns-clause-no_fault
returns-clause-no_fault g = λ w p both releases faultless. no_fault w p both releases faultless
