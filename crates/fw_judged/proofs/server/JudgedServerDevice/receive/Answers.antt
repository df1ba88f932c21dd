use Rattle.std.proofs.Common.{take}
use Rattle.fuse_sessions.specs.declared.transfer.Transfer.TheVariants as said
use Rattle.fuse_device.specs.Transfers.{received, stopped}
use Rattle.fw_judged.specs.Judged.{state_of}
use Rattle.fw_judged.specs.Sides.{OfServer}
use Rattle.fw_judged.specs.Turns.{one_watched}
use Rattle.fw_judged.proofs.Stepping.{step_is}
use Rattle.fw_judged.proofs.server.JudgedServerDevice.receive.Goals as goal

pub returns-in-Ok-clause-frame : goal.returns-in-Ok-clause-frame
returns-in-Ok-clause-frame g c = (
  c.in-Ok.ensures.frame,
  λ f. one_watched f OfServer (state_of c.args.self.now.lines) (state_of c.see_written.new.self)
      (g.W.Write.contents c.args.self.now.lines.out) (g.W.Write.contents c.see_written.new.self.out) (received (take c.in-Ok.count c.receive.new.room)) (λ s right.
      c.see_written.ensures f s right),
)

pub returns-in-Err-clause-end : goal.returns-in-Err-clause-end
returns-in-Err-clause-end g c = (
  c.in-Err.ensures.end,
  λ f. one_watched f OfServer (state_of c.args.self.now.lines) (state_of c.see.new.self)
      (g.W.Write.contents c.args.self.now.lines.out) (g.W.Write.contents c.see.new.self.out) (stopped c.in-Err.end) (λ s right.
      step_is f said.Ended (λ t. OfServer s (stopped c.in-Err.end) t) tt (state_of c.args.self.now.lines) (state_of c.see.new.self)
      (g.W.Write.contents c.args.self.now.lines.out) (g.W.Write.contents c.see.new.self.out) s
      (c.see.ensures f s right)),
)
