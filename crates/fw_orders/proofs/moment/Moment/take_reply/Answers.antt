use Rattle.fw_orders.proofs.Steps.{reply_taken}
use Rattle.fw_orders.proofs.moment.Moment.take_reply.Goals as goal

pub returns : goal.returns
returns g c = reply_taken c.args.self.now c.count_reply.new.self c.say_message.new.self c.try_both.new.self
    c.if-not-count_reply.ensures c.in_ok-say_message.ensures c.in_ok-try_both.ensures
