use Rattle.fuse_theorem.proofs.Requests.RequestsMatchAsks.{first_asked, requests_stay_asked}
use Rattle.fuse_theorem.proofs.Nodes.UnsentNodes.{evict_met}
use Rattle.fuse_theorem.proofs.every_list.requests_stay_asked.Goals as goal

pub returns-clause-at_first : goal.returns-clause-at_first
returns-clause-at_first g = first_asked

pub returns-clause-always : goal.returns-clause-always
returns-clause-always g = λ w sound old e o after happens. requests_stay_asked w sound old e o after happens

pub returns-clause-evict : goal.returns-clause-evict
returns-clause-evict g =
    λ w sound old choice p node o after stepped. evict_met choice w p sound old node o after stepped
