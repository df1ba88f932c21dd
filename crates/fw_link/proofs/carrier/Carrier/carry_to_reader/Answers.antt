use Rattle.fw_link.specs.Traffic.{HasFailed}
use Rattle.fw_link.proofs.Fronts.{at_err, given_front, is_counted}
use Rattle.fw_link.proofs.carrier.Carrier.carry_to_reader.Goals as goal

pub returns-clause-counted : goal.returns-clause-counted
returns-clause-counted g c =
    is_counted c.carry.result _ _ c.carry.ensures.failed
    (at_err _ (HasFailed c.args.link.now.failed.count c.carry.new.link.failed.count) c.carry.result
    (λ lost. lost.counted (given_front _ _ _ lost.got c.requires.gives lost.carried.server_read)) c.carry.ensures.err)
