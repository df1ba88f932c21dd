use Rattle.fw_orders.proofs.Steps.{no_reply, reply_then}
use Rattle.fw_orders.proofs.moment.Moment.take_replies.Goals as goal

pub loop-message-init : goal.loop-message-init
loop-message-init g c = λ last more. more

pub loop-message-preserved : goal.loop-message-preserved
loop-message-preserved g c = λ last more. c.loop-message.invariant last
    (reply_then c.loop-message.self c.take_reply.new.self last (rw c.if-not-branch.false at c.in_ok-take_reply.ensures) more)

pub returns-then-not-branch : goal.returns-then-not-branch
returns-then-not-branch g c = c.loop-message.invariant c.take_reply.new.self
    (no_reply c.loop-message.self c.take_reply.new.self (rw c.if-not-branch.true at c.in_ok-take_reply.ensures))
