use Rattle.fuse_theorem.proofs.Nodes.PerformNeeds.{perform_met, release_met, any_met}
use Rattle.fuse_theorem.proofs.every_list.performs_need_no_more.Goals as goal

pub returns-clause-requests : goal.returns-clause-requests
returns-clause-requests g = λ w p both still choice unique may other. perform_met w p both still choice unique may other

pub returns-clause-releases : goal.returns-clause-releases
returns-clause-releases g =
    λ w p both releases still choice unique t o there is number opens. release_met w p both releases still choice unique t o there is number opens

pub returns-clause-any : goal.returns-clause-any
returns-clause-any g = λ w p both releases still opens unique live_opens choice may. any_met w p both releases still opens unique live_opens choice may
