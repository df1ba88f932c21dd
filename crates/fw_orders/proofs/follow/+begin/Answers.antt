use Rattle.fw_orders.proofs.Followed.{begun_all, begun_then}
use Rattle.fw_orders.proofs.Steps.{on_ok}
use Rattle.fw_orders.proofs.follow.+begin.Goals as goal

pub returns-in-None : goal.returns-in-None
returns-in-None g t c = begun_all c.args.moment.now c.args.calls.now c.in-None.ensures.cases

pub returns-in_ok-act-in-Some : goal.returns-in_ok-act-in-Some
returns-in_ok-act-in-Some g t c = on_ok c.begin.result
    (begun_then c.args.moment.now c.act.new.self c.begin.new.moment c.args.calls.now c.in-Some.rest.now
    c.in-Some.call.now c.in-Some.ensures.cases.0 c.in_ok-act-in-Some.ensures) c.begin.ensures
