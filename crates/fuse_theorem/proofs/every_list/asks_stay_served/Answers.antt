use Rattle.fuse_theorem.proofs.PlainWorld.PlainAsks.{first_served}
use Rattle.fuse_theorem.proofs.Replies.WriteNeeds.{write_met}
use Rattle.fuse_theorem.proofs.Requests.InterruptedStay.{asks_stay_served}
use Rattle.fuse_theorem.proofs.every_list.asks_stay_served.Goals as goal

pub returns-clause-at_first : goal.returns-clause-at_first
returns-clause-at_first g = first_served

pub returns-clause-always : goal.returns-clause-always
returns-clause-always g =
    λ w sound asked p alike old e o after h q takes. asks_stay_served w sound asked p alike old e o after h q takes

pub returns-clause-write : goal.returns-clause-write
returns-clause-write g =
    λ w p sound asked links witness same choice k. write_met choice w p sound asked links witness same k
