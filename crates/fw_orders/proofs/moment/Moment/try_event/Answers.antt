use Rattle.std.proofs.Common.{option_map}
use Rattle.fw_world.specs.Values.{event_of, outcome_of}
use Rattle.fw_orders.proofs.Steps.{tried}
use Rattle.fw_orders.proofs.moment.Moment.try_event.Goals as goal

pub returns : goal.returns
returns g c = tried c.args.self.now c.attempt.new.self (event_of c.args.event.now)
    (option_map outcome_of c.in_ok-attempt.field-0) c.in_ok-attempt.ensures
