use Rattle.fw_drive.proofs.SourceRuns.{all_ran, end_failed, not_ended}
use Rattle.fw_drive.proofs.sourced.run_all.Goals as goal

pub returns-in-Ok-print_end : goal.returns-in-Ok-print_end
returns-in-Ok-print_end g c =
    all_ran g.row.T-Heap.Denot g.D.Device.logs g.met.D.Device.goes_on c.args.form
    g.S.LineSource.gives g.S.LineSource.is_over g.met.D.Device.stays c.args.device.now c.run_lines_of.new.device c.args.source.now
    c.run_lines_of.new.source (g.W.Write.contents c.args.out.now, c.args.notes.now.is_wrong) (g.W.Write.contents c.run_lines_of.new.out)
    (g.W.Write.contents c.print_end.new.out) c.run_lines_of.new.notes.is_wrong c.args.driver.now c.run_lines_of.new.driver c.in-Ok.ensures
    c.in-Ok-print_end.ensures.printed

pub returns-in-Err-print_end : goal.returns-in-Err-print_end
returns-in-Err-print_end g c =
    end_failed g.row.T-Heap.Denot g.D.Device.logs g.met.D.Device.goes_on c.args.form
    g.S.LineSource.gives g.S.LineSource.is_over g.met.D.Device.stays c.args.device.now c.run_lines_of.new.device c.args.source.now
    c.run_lines_of.new.source (g.W.Write.contents c.args.out.now, c.args.notes.now.is_wrong) (g.W.Write.contents c.run_lines_of.new.out)
    (g.W.Write.contents c.print_end.new.out) c.run_lines_of.new.notes.is_wrong c.args.driver.now c.run_lines_of.new.driver c.in-Err-print_end.stop
    c.in-Err-print_end.ensures.own c.in-Ok.ensures c.in-Err-print_end.ensures.printed

pub returns-in-Err : goal.returns-in-Err
returns-in-Err g c =
    not_ended g.row.T-Heap.Denot g.D.Device.logs c.args.form g.S.LineSource.gives g.S.LineSource.is_over
    c.args.device.now c.run_lines_of.new.device c.args.source.now c.run_lines_of.new.source
    (g.W.Write.contents c.args.out.now, c.args.notes.now.is_wrong) (g.W.Write.contents c.run_lines_of.new.out, c.run_lines_of.new.notes.is_wrong) c.args.driver.now
    c.run_lines_of.new.driver c.in-Err.halt c.in-Err.ensures
