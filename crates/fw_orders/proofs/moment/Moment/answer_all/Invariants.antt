use Rattle.order_law.specs.Moments.{Carried, Moment}
use Rattle.fw_orders.proofs.moment.Moment.answer_all.Given as goal

abbrev pub invariant-loop-message : goal.invariant-loop-message
invariant-loop-message g l = (last : Moment) → Carried l.self last → Carried l.initial.self last
