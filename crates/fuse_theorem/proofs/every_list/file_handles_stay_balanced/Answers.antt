use Rattle.fuse_theorem.proofs.OpenFiles.OpensStay.{first_opens, opens_stay}
use Rattle.fuse_theorem.proofs.every_list.file_handles_stay_balanced.Goals as goal

pub returns-clause-at_first : goal.returns-clause-at_first
returns-clause-at_first g = first_opens

pub returns-clause-always : goal.returns-clause-always
returns-clause-always g = λ w p both releases old e o after happens. opens_stay w p both releases old e o after happens
