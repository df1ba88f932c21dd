use Rattle.std.proofs.Common.{ℕ, List, arith, refl, subst}
use Rattle.fuse_spec.specs.Calls.Calls.{write}
use Rattle.fuse_spec.specs.World.Events.{call}
use Rattle.order_law.specs.Moments.{Acts, line}
use Rattle.fw_orders.proofs.Hexes.{read_back}
use Rattle.fw_orders.proofs.Steps.{on_ok}
use Rattle.fw_orders.proofs.moment.Moment.follow_bytes.Goals as goal

pub returns : goal.returns
returns g c = on_ok c.follow_line.result
    (subst (λ (bytes : List ℕ). Acts c.args.self.now
    (line c.args.text.now (call (write c.args.call.open_call c.args.call.offset bytes))) c.follow_line.new.self)
    (read_back c.args.call.hex.now c.args.bytes.now c.args.bytes.now (λ i. omega (arith, c.type_inv.bytes i)) c.requires
    refl)) c.follow_line.ensures
