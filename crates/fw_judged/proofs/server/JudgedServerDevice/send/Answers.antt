use Rattle.std.proofs.Common.{refl}
use Rattle.fuse_sessions.specs.declared.transfer.Transfer.TheVariants as said
use Rattle.fuse_device.specs.Transfers.{sent, unsent}
use Rattle.fw_judged.specs.Judged.{state_of}
use Rattle.fw_judged.specs.Sides.{OfServer}
use Rattle.fw_judged.specs.Turns.{one_watched}
use Rattle.fw_judged.proofs.Stepping.{step_is}
use Rattle.fw_judged.proofs.server.JudgedServerDevice.send.Goals as goal

pub returns-in-Ok-clause-result : goal.returns-in-Ok-clause-result
returns-in-Ok-clause-result g c = (
  c.in-Ok.ensures.result,
  λ f. one_watched f OfServer (state_of c.args.self.now.lines) (state_of c.see.new.self)
      (g.W.Write.contents c.args.self.now.lines.out) (g.W.Write.contents c.see.new.self.out) (sent c.args.frame.now c.in-Ok.sent) (λ s right.
      step_is f (said.Request c.args.frame) (λ t. OfServer s (sent c.args.frame.now c.in-Ok.sent) t) refl (state_of c.args.self.now.lines) (state_of c.see.new.self)
      (g.W.Write.contents c.args.self.now.lines.out) (g.W.Write.contents c.see.new.self.out) s
      (c.see.ensures f s right)),
)

pub returns-in-Err-clause-end : goal.returns-in-Err-clause-end
returns-in-Err-clause-end g c = (
  c.in-Err.ensures.end,
  λ f. one_watched f OfServer (state_of c.args.self.now.lines) (state_of c.see-in-Err.new.self)
      (g.W.Write.contents c.args.self.now.lines.out) (g.W.Write.contents c.see-in-Err.new.self.out) (unsent c.args.frame.now c.in-Err.end) (λ s right.
      step_is f said.Ended (λ t. OfServer s (unsent c.args.frame.now c.in-Err.end) t) tt (state_of c.args.self.now.lines) (state_of c.see-in-Err.new.self)
      (g.W.Write.contents c.args.self.now.lines.out) (g.W.Write.contents c.see-in-Err.new.self.out) s
      (c.see-in-Err.ensures f s right)),
)
