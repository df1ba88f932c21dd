use Rattle.std.specs.Prelude.{All, Err, Result}
use Rattle.fw_drive.specs.LineMoves.{FirstThen, IsCollected, IsMoveOf, MayFollow, Perhaps}
use Rattle.fw_drive.specs.declared.stop.Stop.{Stop}
use Rattle.fw_drive.proofs.Following.{then, weaker}
use Rattle.fw_drive.proofs.LineRuns.{collected_follows, first_on, first_weaker, perhaps, perhaps_weaker}
use Rattle.fw_drive.proofs.script.run_carried.Goals as goal

pub returns-in-Ok : goal.returns-in-Ok
returns-in-Ok g c =
    let Is = IsMoveOf c.args.line in
    let Follow = MayFollow c.args.form in
    then g.row.T-Heap.Denot g.D.Device.logs g.met.D.Device.goes_on c.args.form c.args.device.now c.run_line.new.device
    c.carry_on.new.device (g.W.Write.contents c.args.out.now, c.args.notes.now.is_wrong) (g.W.Write.contents c.run_line.new.out, c.run_line.new.notes.is_wrong)
    (g.W.Write.contents c.carry_on.new.out, c.carry_on.new.notes.is_wrong) c.args.driver.now c.run_line.new.driver c.carry_on.new.driver _
    c.carry_on.result
    (FirstThen Is IsCollected) (All Follow) (Perhaps c.carry_on.result (FirstThen Is Follow)) c.in-Ok.ensures
    c.carry_on.ensures
    (λ m n first rest. perhaps c.carry_on.result (FirstThen Is Follow) _
    (first_on Is Follow m n (first_weaker Is Is IsCollected Follow (λ move is. is) (collected_follows c.args.form) m first) rest))

pub returns-in-Err : goal.returns-in-Err
returns-in-Err g c =
    let failed : Result (Unit {0}) Stop = Err c.in-Err.stop in
    let Is = IsMoveOf c.args.line in
    let Follow = MayFollow c.args.form in
    weaker g.row.T-Heap.Denot g.D.Device.logs c.args.form c.args.device.now c.run_line.new.device
    (g.W.Write.contents c.args.out.now, c.args.notes.now.is_wrong) (g.W.Write.contents c.run_line.new.out, c.run_line.new.notes.is_wrong) c.args.driver.now c.run_line.new.driver
    failed _ _ c.in-Err.ensures
    (perhaps_weaker failed (FirstThen Is IsCollected) (FirstThen Is Follow)
    (first_weaker Is Is IsCollected Follow (λ move is. is) (collected_follows c.args.form)))
