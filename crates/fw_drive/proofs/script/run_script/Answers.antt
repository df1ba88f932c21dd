use Rattle.std.proofs.Common.{◌++◌}
use Rattle.fw_drive.specs.DriveLines.{IsOfCalls}
use Rattle.fw_drive.specs.LineMoves.{Carries, FirstThen, IsMoveOf, LinesMoveAs, mount_line, mount_lines}
use Rattle.fw_drive.proofs.Following.{failed, then, weaker}
use Rattle.fw_drive.proofs.LineRuns.{mount_failed, mounted_then, unmounted}
use Rattle.fw_drive.proofs.script.run_script.Goals as goal

pub returns-then-not-is_of_calls : goal.returns-then-not-is_of_calls
returns-then-not-is_of_calls g c =
    let never : IsOfCalls c.args.form → ⊥ = λ of_calls. cc (c.is_of_calls.ensures.1 of_calls, c.if-not-is_of_calls.true) in
    weaker g.row.T-Heap.Denot g.D.Device.logs c.args.form c.args.device.now c.run_lines.new.device
    (g.W.Write.contents c.args.out.now, c.args.notes.now.is_wrong) (g.W.Write.contents c.run_lines.new.out, c.run_lines.new.notes.is_wrong) c.args.driver.now c.run_lines.new.driver
    c.run_lines.result _ _ c.run_lines.ensures (unmounted c.args.form never c.run_lines.result c.args.lines.now)

pub returns-in-Ok : goal.returns-in-Ok
returns-in-Ok g c =
    let of_calls : IsOfCalls c.args.form = c.is_of_calls.ensures.0 c.if-not-is_of_calls.false in
    then g.row.T-Heap.Denot g.D.Device.logs g.met.D.Device.goes_on c.args.form c.args.device.now c.mount.new.device
    c.run_lines-in-Ok.new.device (g.W.Write.contents c.args.out.now, c.args.notes.now.is_wrong) (g.W.Write.contents c.mount.new.out, c.mount.new.notes.is_wrong)
    (g.W.Write.contents c.run_lines-in-Ok.new.out, c.run_lines-in-Ok.new.notes.is_wrong) c.args.driver.now c.mount.new.driver c.run_lines-in-Ok.new.driver _
    c.run_lines-in-Ok.result (FirstThen (IsMoveOf mount_line) Carries)
    (LinesMoveAs c.args.form c.run_lines-in-Ok.result c.args.lines.now)
    (LinesMoveAs c.args.form c.run_lines-in-Ok.result (mount_lines c.args.form ++ c.args.lines.now)) c.in-Ok.ensures
    c.run_lines-in-Ok.ensures (mounted_then c.args.form of_calls c.run_lines-in-Ok.result c.args.lines.now)

pub returns-in-Err : goal.returns-in-Err
returns-in-Err g c =
    let of_calls : IsOfCalls c.args.form = c.is_of_calls.ensures.0 c.if-not-is_of_calls.false in
    failed g.row.T-Heap.Denot g.D.Device.logs c.args.form c.args.device.now c.mount.new.device
    (g.W.Write.contents c.args.out.now, c.args.notes.now.is_wrong) (g.W.Write.contents c.mount.new.out, c.mount.new.notes.is_wrong) c.args.driver.now c.mount.new.driver
    c.in-Err.stop (FirstThen (IsMoveOf mount_line) Carries) _ c.in-Err.ensures
    (mount_failed c.args.form of_calls c.args.lines.now)
