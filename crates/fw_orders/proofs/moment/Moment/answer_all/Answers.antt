use Rattle.fw_orders.proofs.Steps.{no_request, request_then}
use Rattle.fw_orders.proofs.moment.Moment.answer_all.Goals as goal

pub loop-message-init : goal.loop-message-init
loop-message-init g c = λ last more. more

pub loop-message-preserved : goal.loop-message-preserved
loop-message-preserved g c = λ last more. c.loop-message.invariant last
    (request_then c.loop-message.self c.trip.new.self last (rw c.if-not-branch.false at c.in_ok-trip.ensures) more)

pub returns-then-not-branch : goal.returns-then-not-branch
returns-then-not-branch g c = c.loop-message.invariant c.trip.new.self
    (no_request c.loop-message.self c.trip.new.self (rw c.if-not-branch.true at c.in_ok-trip.ensures))
