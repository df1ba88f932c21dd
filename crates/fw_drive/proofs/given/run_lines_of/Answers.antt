use Rattle.fw_drive.proofs.SourceRuns.{mounted_runs, unmounted_runs}
use Rattle.fw_drive.proofs.given.run_lines_of.Goals as goal

pub returns-in-Ok : goal.returns-in-Ok
returns-in-Ok g c =
    mounted_runs g.row.T-Heap.Denot g.D.Device.logs g.met.D.Device.goes_on c.args.form g.S.LineSource.gives
    g.S.LineSource.is_over c.run_given.result c.args.device.now c.mount_first.new.device c.run_given.new.device
    c.args.source.now c.run_given.new.source (g.W.Write.contents c.args.out.now, c.args.notes.now.is_wrong)
    (g.W.Write.contents c.mount_first.new.out, c.mount_first.new.notes.is_wrong) (g.W.Write.contents c.run_given.new.out, c.run_given.new.notes.is_wrong) c.args.driver.now
    c.mount_first.new.driver c.run_given.new.driver c.in-Ok.ensures c.run_given.ensures

pub returns-in-Err : goal.returns-in-Err
returns-in-Err g c =
    unmounted_runs g.row.T-Heap.Denot g.D.Device.logs c.args.form g.S.LineSource.gives g.S.LineSource.is_over
    g.met.S.LineSource.stays c.args.device.now c.mount_first.new.device c.args.source.now
    (g.W.Write.contents c.args.out.now, c.args.notes.now.is_wrong) (g.W.Write.contents c.mount_first.new.out, c.mount_first.new.notes.is_wrong) c.args.driver.now
    c.mount_first.new.driver c.in-Err.stop c.in-Err.ensures
