use Rattle.std.proofs.Common.{refl}
use Rattle.fuse_sessions.specs.declared.transfer.Transfer.TheVariants as said
use Rattle.fuse_device.specs.Transfers.{received}
use Rattle.fw_judged.specs.Judged.{state_of}
use Rattle.fw_judged.specs.Sides.{OfKernel}
use Rattle.fw_judged.proofs.Stepping.{step_is}
use Rattle.fw_judged.proofs.lines.FaultLines.see_request.Goals as goal

pub returns : goal.returns
returns g c f s right =
    step_is f (said.Request c.args.frame) (λ t. OfKernel s (received c.args.frame.now) t) refl (state_of c.args.self.now)
    (state_of c.see.new.self) (g.W.Write.contents c.args.self.now.out) (g.W.Write.contents c.see.new.self.out) s
    (c.see.ensures f s right)
