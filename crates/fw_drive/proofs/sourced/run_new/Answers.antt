use Rattle.std.proofs.Common.{Bool, false, subst}
use Rattle.fk_drive.specs.Driving.{Driven, first_driven}
use Rattle.fw_drive.specs.Sources.{RunsAll}
use Rattle.fw_drive.proofs.SourceRuns.{never_begun}
use Rattle.fw_drive.proofs.Texts.{own_stop}
use Rattle.fw_drive.proofs.sourced.run_new.Goals as goal

pub returns-in-Err : goal.returns-in-Err
returns-in-Err g c = (
  first_driven c.args.task.opens_directories,
  never_begun g.row.T-Heap.Denot g.D.Device.logs c.args.task.form g.S.LineSource.gives g.S.LineSource.is_over
      g.met.D.Device.stays g.met.S.LineSource.stays c.args.device.now c.args.source.now
      (g.W.Write.contents c.args.out.now, false) (first_driven c.args.task.opens_directories) c.in-Err.stop
      (own_stop c.in-Err.stop c.in-Err.ensures.own),
)

pub returns : goal.returns
returns g c = (
  c.run_all-ended.new.driver,
  subst (λ (first : Driven). RunsAll g.row.T-Heap.Denot g.D.Device.logs g.S.LineSource.gives g.S.LineSource.is_over
      c.args.task.form c.args.device.now c.run_all-ended.new.device c.args.source.now c.run_all-ended.new.source
      (g.W.Write.contents c.args.out.now, false)
      (g.W.Write.contents c.run_all-ended.new.out, c.run_all-ended.new.notes.is_wrong) first c.run_all-ended.new.driver
      c.run_all-ended.result) c.new-driver.ensures
      (subst (λ (told : Bool). RunsAll g.row.T-Heap.Denot g.D.Device.logs g.S.LineSource.gives g.S.LineSource.is_over
      c.args.task.form c.args.device.now c.run_all-ended.new.device c.args.source.now c.run_all-ended.new.source
      (g.W.Write.contents c.args.out.now, told)
      (g.W.Write.contents c.run_all-ended.new.out, c.run_all-ended.new.notes.is_wrong) c.new-driver.result
      c.run_all-ended.new.driver c.run_all-ended.result) c.in-Ok.ensures.new c.run_all-ended.ensures),
)
