use Rattle.std.proofs.Common.{take, subst}
use Rattle.std.specs.Prelude.{Ok, Err, List}
use Rattle.std.proofs.lemmas.List.{take_all}
use Rattle.fw_drive.specs.LineMoves.{LinesMove, no_line}
use Rattle.fw_drive.specs.declared.line.DriveLine.{DriveLine}
use Rattle.fw_drive.proofs.Following.{given, none_went, then}
use Rattle.fw_drive.proofs.LineRuns.{line_failed, line_more}
use Rattle.fw_drive.proofs.script.run_lines.Goals as goal

pub loop-line-init : goal.loop-line-init
loop-line-init g c =
    none_went g.row.T-Heap.Denot g.D.Device.logs g.met.D.Device.stays c.args.form c.args.device.now
    (g.W.Write.contents c.args.out.now, c.args.notes.now.is_wrong) c.args.driver.now _ no_line

pub loop-line-preserved : goal.loop-line-preserved
loop-line-preserved g c =
    let before = LinesMove c.args.form (take c.loop-line.line-index c.args.lines.now) in
    then g.row.T-Heap.Denot g.D.Device.logs g.met.D.Device.goes_on c.args.form c.args.device.now c.loop-line.device
    c.do_line.new.device (g.W.Write.contents c.args.out.now, c.args.notes.now.is_wrong) (g.W.Write.contents c.loop-line.out, c.loop-line.notes.is_wrong)
    (g.W.Write.contents c.do_line.new.out, c.do_line.new.notes.is_wrong) c.args.driver.now c.loop-line.driver c.do_line.new.driver tt (Ok tt) before _ _
    c.loop-line.invariant c.in_default.ensures
    (line_more c.args.form c.args.lines.now c.loop-line.line-index _ c.loop-line-test.true)

pub returns-in-Err : goal.returns-in-Err
returns-in-Err g c =
    let before = LinesMove c.args.form (take c.loop-line.line-index c.args.lines.now) in
    then g.row.T-Heap.Denot g.D.Device.logs g.met.D.Device.goes_on c.args.form c.args.device.now c.loop-line.device
    c.do_line.new.device (g.W.Write.contents c.args.out.now, c.args.notes.now.is_wrong) (g.W.Write.contents c.loop-line.out, c.loop-line.notes.is_wrong)
    (g.W.Write.contents c.do_line.new.out, c.do_line.new.notes.is_wrong) c.args.driver.now c.loop-line.driver c.do_line.new.driver tt (Err c.in-Err.stop)
    before _ _ c.loop-line.invariant c.in-Err.ensures
    (line_failed c.args.form c.args.lines.now c.loop-line.line-index _ c.loop-line-test.true)

pub returns : goal.returns
returns g c =
    given g.row.T-Heap.Denot g.D.Device.logs c.args.form c.args.device.now c.loop-line.device
    (g.W.Write.contents c.args.out.now, c.args.notes.now.is_wrong) (g.W.Write.contents c.loop-line.out, c.loop-line.notes.is_wrong) c.args.driver.now c.loop-line.driver tt _ tt
    (LinesMove c.args.form (take c.loop-line.line-index c.args.lines.now)) (LinesMove c.args.form c.args.lines.now)
    c.loop-line.invariant
    (λ m are. subst (λ (lines : List DriveLine). LinesMove c.args.form lines m)
    (take_all c.loop-line.line-index c.args.lines.now c.loop-line-test.false) are)
