use Rattle.std.proofs.Common.{ℕ, Option, option_map, subst}
use Rattle.std.specs.Prelude.{codes}
use Rattle.fuse_spec.specs.World.Events.{is_read, read_interrupt}
use Rattle.fw_orders.specs.Attempts.{Attempted}
use Rattle.fw_orders.proofs.Steps.{interrupt_read, no_interrupt, on_ok, read_and_taken}
use Rattle.fw_orders.proofs.moment.Moment.read_interrupt.Goals as goal

pub returns-in_default : goal.returns-in_default
returns-in_default g c = no_interrupt c.args.self.now c.read.new.self (subst
    (λ (u : Option ℕ). Attempted c.args.self.now read_interrupt (option_map is_read u) c.read.new.self) c.in_default.is
    c.in_ok-_unique.ensures)

pub returns : goal.returns
returns g c =
    let read = (subst
    (λ (u : Option ℕ). Attempted c.args.self.now read_interrupt (option_map is_read u) c.read.new.self) c.in-Some.is
    c.in_ok-_unique.ensures) in
    on_ok c.try_event.result
    (λ t. interrupt_read c.args.self.now c.try_event.new.self
    (read_and_taken c.args.self.now c.read.new.self c.say_message.new.self c.try_event.new.self read_interrupt
    c.in-Some._unique (codes "read i\n") read c.in_ok-say_message.ensures t)) c.try_event.ensures
