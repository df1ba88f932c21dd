use Rattle.std.proofs.Common.{Bool, false, subst}
use Rattle.fk_drive.specs.Driving.{Driven, first_driven}
use Rattle.fw_drive.specs.LineMoves.{LinesMoveAs, all_lines}
use Rattle.fw_drive.specs.Runs.{Goes}
use Rattle.fw_drive.proofs.Following.{none_goes}
use Rattle.fw_drive.proofs.LineRuns.{no_lines}
use Rattle.fw_drive.proofs.Texts.{own_stop}
use Rattle.fw_drive.proofs.run.run_good.Goals as goal

pub returns-in-Err : goal.returns-in-Err
returns-in-Err g c = (
  first_driven c.args.task.opens_directories,
  none_goes g.row.T-Heap.Denot g.D.Device.logs g.met.D.Device.stays c.args.task.form c.args.device.now
      (g.W.Write.contents c.args.out.now, false) (first_driven c.args.task.opens_directories) _
      (own_stop c.in-Err.stop c.in-Err.ensures.own) _ (no_lines _ c.args.task.form _),
)

pub returns : goal.returns
returns g c = (
  c.run_driver-ended.new.driver,
  subst (λ (first : Driven). Goes g.row.T-Heap.Denot g.D.Device.logs c.args.task.form c.args.device.now
      c.run_driver-ended.new.device (g.W.Write.contents c.args.out.now, false)
      (g.W.Write.contents c.run_driver-ended.new.out, c.run_driver-ended.new.notes.is_wrong) first c.run_driver-ended.new.driver c.run_driver-ended.result
      (LinesMoveAs c.args.task.form c.run_driver-ended.result (all_lines c.args.task.form c.args.lines.now)))
      c.new-driver.ensures
      (subst (λ (told : Bool). Goes g.row.T-Heap.Denot g.D.Device.logs c.args.task.form c.args.device.now
      c.run_driver-ended.new.device (g.W.Write.contents c.args.out.now, told)
      (g.W.Write.contents c.run_driver-ended.new.out, c.run_driver-ended.new.notes.is_wrong) c.new-driver.result
      c.run_driver-ended.new.driver c.run_driver-ended.result
      (LinesMoveAs c.args.task.form c.run_driver-ended.result (all_lines c.args.task.form c.args.lines.now)))
      c.in-Ok.ensures.new c.run_driver-ended.ensures),
)
