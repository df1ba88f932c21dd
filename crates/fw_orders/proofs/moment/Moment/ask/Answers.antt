use Rattle.std.proofs.Common.{ℕ, Option, option_map, subst}
use Rattle.fuse_spec.specs.World.Events.{is_read, read_pending}
use Rattle.fw_orders.specs.Attempts.{Attempted}
use Rattle.fw_orders.proofs.Steps.{asked}
use Rattle.fw_orders.proofs.moment.Moment.ask.Goals as goal

pub returns : goal.returns
returns g c =
    let read = (subst
    (λ (u : Option ℕ). Attempted c.args.self.now (read_pending c.args.place) (option_map is_read u) c.read.new.self) c.in-Some.is
    c.in_ok-unique.ensures) in
    asked c.args.self.now c.read.new.self c.say_numbered.new.self c.try_both.new.self c.leave_reply.new.self
    c.read_interrupt.new.self c.args.place c.in-Some.unique read c.in_ok-say_numbered.ensures c.in_ok-try_both.ensures
    c.in_ok-leave_reply.ensures c.in_ok-read_interrupt.ensures
