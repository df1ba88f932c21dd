use Rattle.fuse_theorem.proofs.Replies.KeptOnLink.{first_kept, kept_stay_sent}
use Rattle.fuse_theorem.proofs.any_event.kept_replies_stay_sent.Goals as goal

pub returns-clause-at_first : goal.returns-clause-at_first
returns-clause-at_first g = first_kept

pub returns-clause-always : goal.returns-clause-always
returns-clause-always g = λ w sound kept e o after happens. kept_stay_sent w sound kept e o after happens
