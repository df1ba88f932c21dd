use Rattle.fuse_theorem.proofs.Replies.RepliesFitStay.{first_fit, no_wrong_body, replies_stay_fit}
use Rattle.fuse_theorem.proofs.every_list.replies_stay_fit.Goals as goal

pub returns-clause-at_first : goal.returns-clause-at_first
returns-clause-at_first g = first_fit

pub returns-clause-always : goal.returns-clause-always
returns-clause-always g =
    λ w p both faultless old e o after happens. replies_stay_fit w p both faultless old e o after happens

pub returns-clause-no_wrong_body : goal.returns-clause-no_wrong_body
returns-clause-no_wrong_body g = λ w p both fit. no_wrong_body w p both fit
