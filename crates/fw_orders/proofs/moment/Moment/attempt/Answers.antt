use Rattle.std.proofs.Common.{IfOk, ap, option_map, subst}
use Rattle.fw_world.specs.Values.{event_of, outcome_of}
use Rattle.fw_orders.specs.Attempts.{AttemptedIn, in_world}
use Rattle.order_law.specs.Moments.{Moment}
use Rattle.fw_orders.proofs.Steps.{attempted}
use Rattle.fw_orders.proofs.moment.Moment.attempt.Goals as goal

pub returns : goal.returns
returns g c = attempted c.args.self.now _ (event_of c.args.event.now) c.attempt_in.result c.attempt_in.new.world.sides
    (ap (λ (m : Moment). in_world m c.attempt_in.new.world.sides) c.self.view_is) (subst
    (λ (m : Moment). IfOk c.attempt_in.result
    (λ o. AttemptedIn m.world (event_of c.args.event.now) (option_map outcome_of o) c.attempt_in.new.world.sides))
    c.self.view_is c.attempt_in.ensures)
