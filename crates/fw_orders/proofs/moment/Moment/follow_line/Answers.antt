use Rattle.fw_world.specs.Values.{event_of}
use Rattle.fw_orders.proofs.Steps.{by_text, on_ok}
use Rattle.fw_orders.proofs.moment.Moment.follow_line.Goals as goal

pub returns : goal.returns
returns g c = on_ok c.try_event.result
    (by_text c.args.self.now c.say.new.self c.say-2.new.self c.try_event.new.self c.args.text.now
    (event_of c.args.event.now) c.in_ok-say.ensures c.in_ok-say-2.ensures) c.try_event.ensures
