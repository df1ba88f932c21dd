use Rattle.fw_link.specs.Traffic.{HasFailed}
use Rattle.fw_link.proofs.Fronts.{at_err, front_of_all, in_order_front, is_counted}
use Rattle.fw_link.proofs.carrier.Carrier.carry_in_order.Goals as goal

pub returns-clause-counted : goal.returns-clause-counted
returns-clause-counted g c =
    is_counted c.carry.result _ _ c.carry.ensures.failed
    (at_err _ (HasFailed (g.L.Link.failed c.args.link.now) (g.L.Link.failed c.carry.new.link)) c.carry.result
    (λ lost. lost.counted (front_of_all lost.put_len _ lost.got
    (in_order_front c.args.from _ lost.got
    (g.met.L.LinkInOrder.in_order _ _ _ c.requires.idle lost.carried)))) c.carry.ensures.err)
