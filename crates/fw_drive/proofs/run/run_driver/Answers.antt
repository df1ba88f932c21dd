use Rattle.std.proofs.Common.{◌++◌}
use Rattle.fw_drive.specs.LineMoves.{FirstThen, IsMoveOf, LinesMove, LinesMoveAs, MayFollow, Perhaps, all_lines, mount_lines}
use Rattle.fw_drive.specs.declared.line.DriveLine.TheVariants as line
use Rattle.fw_drive.proofs.Following.{failed, shows_nodes, then, weaker}
use Rattle.fw_drive.proofs.LineRuns.{lines_failed, note_follows, perhaps, shown_then}
use Rattle.fw_drive.proofs.Texts.{all_said}
use Rattle.fw_drive.proofs.run.run_driver.Goals as goal

pub returns-in-Ok : goal.returns-in-Ok
returns-in-Ok g c =
    let (said, printed, right) = c.print_end.ensures.printed in
    let told = c.run_script.new.notes.is_wrong in
    let mid = g.W.Write.contents c.run_script.new.out in
    let has = g.W.Write.contents c.print_end.new.out in
    let Are = FirstThen (IsMoveOf line.Show) (MayFollow c.args.form) in
    then g.row.T-Heap.Denot g.D.Device.logs g.met.D.Device.goes_on c.args.form c.args.device.now c.run_script.new.device
    c.run_script.new.device (g.W.Write.contents c.args.out.now, c.args.notes.now.is_wrong) (mid, told) (has, told) c.args.driver.now c.run_script.new.driver
    c.run_script.new.driver _ c.print_end.result (LinesMove c.args.form (mount_lines c.args.form ++ c.args.lines.now))
    (Perhaps c.print_end.result Are)
    (LinesMoveAs c.args.form c.print_end.result (all_lines c.args.form c.args.lines.now)) c.in-Ok.ensures
    (weaker g.row.T-Heap.Denot g.D.Device.logs c.args.form c.run_script.new.device c.run_script.new.device (mid, told) (has, told)
    c.run_script.new.driver c.run_script.new.driver c.print_end.result Are (Perhaps c.print_end.result Are)
    (shows_nodes g.row.T-Heap.Denot g.D.Device.logs g.met.D.Device.stays c.args.form c.run_script.new.device mid has told
    c.run_script.new.driver c.print_end.result c.print_end.ensures.own (MayFollow c.args.form) said
    (all_said (MayFollow c.args.form) (note_follows c.args.form) said) printed right)
    (perhaps c.print_end.result Are)) (shown_then c.args.form c.print_end.result c.args.lines.now)

pub returns-in-Err : goal.returns-in-Err
returns-in-Err g c =
    failed g.row.T-Heap.Denot g.D.Device.logs c.args.form c.args.device.now c.run_script.new.device
    (g.W.Write.contents c.args.out.now, c.args.notes.now.is_wrong) (g.W.Write.contents c.run_script.new.out, c.run_script.new.notes.is_wrong) c.args.driver.now
    c.run_script.new.driver c.in-Err.stop _ _ c.in-Err.ensures (lines_failed c.args.form c.args.lines.now)
