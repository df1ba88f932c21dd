use Rattle.order_law.specs.Moments.{Forgotten, Moment}
use Rattle.fw_orders.proofs.moment.Moment.forget.Given as goal

abbrev pub invariant-loop-message : goal.invariant-loop-message
invariant-loop-message g l = (last : Moment) → Forgotten l.self last → Forgotten l.initial.self last
