use Rattle.fw_orders.proofs.Steps.{forget_then, no_forget}
use Rattle.fw_orders.proofs.moment.Moment.forget.Goals as goal

pub loop-message-init : goal.loop-message-init
loop-message-init g c = λ last more. more

pub loop-message-preserved : goal.loop-message-preserved
loop-message-preserved g c = λ last more. c.loop-message.invariant last
    (forget_then c.loop-message.self c.read_forget.new.self last (rw c.if-not-branch.false at c.in_ok-read_forget.ensures) more)

pub returns-then-not-branch : goal.returns-then-not-branch
returns-then-not-branch g c = c.loop-message.invariant c.read_forget.new.self
    (no_forget c.loop-message.self c.read_forget.new.self (rw c.if-not-branch.true at c.in_ok-read_forget.ensures))
