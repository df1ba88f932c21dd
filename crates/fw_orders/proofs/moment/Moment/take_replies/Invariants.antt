use Rattle.order_law.specs.Moments.{RepliesTaken, Moment}
use Rattle.fw_orders.proofs.moment.Moment.take_replies.Given as goal

abbrev pub invariant-loop-message : goal.invariant-loop-message
invariant-loop-message g l = (last : Moment) → RepliesTaken l.self last → RepliesTaken l.initial.self last
