use Rattle.std.proofs.Common.{ℕ, Option, option_map, sym, subst}
use Rattle.fuse_spec.specs.World.Events.{is_read}
use Rattle.fw_world.specs.declared.event.Outcome.{Outcome}
use Rattle.fw_world.specs.Values.{outcome_of, read_of}
use Rattle.fw_orders.specs.Attempts.{Attempted}
use Rattle.fw_orders.proofs.ReadOutcomes.{by_number}
use Rattle.fw_orders.proofs.moment.Moment.read.Goals as goal

pub returns-in-Some : goal.returns-in-Some
returns-in-Some g c =
    let happened = subst
    (λ (o : Option Outcome). Attempted c.args.self.now (read_of c.args.pick) (option_map outcome_of o) c.attempt.new.self)
    c.in-Some.is c.in_ok-outcome.ensures in
    subst (λ (u : Option ℕ). Attempted c.args.self.now (read_of c.args.pick) (option_map is_read u) c.attempt.new.self)
    (sym c.unique_of.ensures)
    (by_number c.args.self.now c.attempt.new.self c.args.pick c.in-Some.outcome happened)
