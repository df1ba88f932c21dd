use Rattle.std.proofs.Common.{Bool, subst}
use Rattle.std.specs.Prelude.{Result, Ok, Err}
use Rattle.fw_drive.specs.LineMoves.{FirstThen, IsMoveOf, MayFollow, Perhaps}
use Rattle.fw_drive.specs.Runs.{Goes}
use Rattle.fw_drive.specs.declared.stop.Stop.{Stop}
use Rattle.fw_drive.proofs.Following.{handed_on}
use Rattle.fw_drive.proofs.LineRuns.{perhaps}
use Rattle.fw_drive.proofs.Texts.{own_result}
use Rattle.fw_drive.proofs.script.do_line.Goals as goal

pub returns-in-Ok : goal.returns-in-Ok
returns-in-Ok g c =
    let Are = FirstThen (IsMoveOf c.args.line) (MayFollow c.args.form) in
    let r : Result (Unit {0}) Stop = Ok tt in
    handed_on g.row.T-Heap.Denot g.D.Device.logs c.args.form c.args.device.now c.run_carried.new.device
    (g.W.Write.contents c.args.out.now, c.args.notes.now.is_wrong) (g.W.Write.contents c.run_carried.new.out) (g.W.Write.contents c.flush.new.out) c.run_carried.new.notes.is_wrong
    c.args.driver.now c.run_carried.new.driver _ c.flush.result (own_result c.flush.result c.flush.ensures.own) Are
    (Perhaps c.flush.result Are)
    (subst (λ (told : Bool). Goes g.row.T-Heap.Denot g.D.Device.logs c.args.form c.args.device.now c.run_carried.new.device
    (g.W.Write.contents c.args.out.now, told) (g.W.Write.contents c.run_carried.new.out, c.run_carried.new.notes.is_wrong)
    c.args.driver.now c.run_carried.new.driver r Are) c.begin_line.ensures c.in-Ok.ensures)
    c.flush.ensures.keeps (perhaps c.flush.result Are)

pub returns-in-Err : goal.returns-in-Err
returns-in-Err g c =
    let Are = FirstThen (IsMoveOf c.args.line) (MayFollow c.args.form) in
    let r : Result (Unit {0}) Stop = Err c.in-Err.stop in
    subst (λ (told : Bool). Goes g.row.T-Heap.Denot g.D.Device.logs c.args.form c.args.device.now c.run_carried.new.device
    (g.W.Write.contents c.args.out.now, told) (g.W.Write.contents c.run_carried.new.out, c.run_carried.new.notes.is_wrong)
    c.args.driver.now c.run_carried.new.driver r (Perhaps r Are)) c.begin_line.ensures c.in-Err.ensures
