use Rattle.fuse_device.specs.Transfers.{received}
use Rattle.fw_judged.specs.Judged.{state_of}
use Rattle.fw_judged.specs.Sides.{OfServer}
use Rattle.fw_judged.proofs.Stepping.{step_is}
use Rattle.fw_judged.proofs.lines.FaultLines.judge_written.Goals as goal

pub returns-in-Ok : goal.returns-in-Ok
returns-in-Ok g c f s right judging =
    step_is f c.in-Ok.transfer (λ said. OfServer s (received c.args.frame.now) said)
    (c.in-Ok.ensures s c.args.self.now.number (right.judged judging)) (state_of c.args.self.now) (state_of c.judge.new.self)
    (g.W.Write.contents c.args.self.now.out) (g.W.Write.contents c.judge.new.self.out) s (c.judge.ensures f s right judging)
