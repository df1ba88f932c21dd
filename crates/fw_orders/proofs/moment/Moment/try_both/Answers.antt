use Rattle.fw_world.specs.Values.{event_of}
use Rattle.fw_orders.proofs.Steps.{both, on_ok}
use Rattle.fw_orders.proofs.moment.Moment.try_both.Goals as goal

pub returns : goal.returns
returns g c = on_ok c.try_event-2.result
    (both c.args.self.now c.try_event.new.self c.try_event-2.new.self (event_of c.args.first.now)
    (event_of c.args.second.now) c.in_ok-try_event.ensures) c.try_event-2.ensures
