use Rattle.std.proofs.Common.{[], ◌∷◌, arith, refl}
use Rattle.fw_drive.specs.Judging.{no_more, passed_over, says}
use Rattle.fw_drive.specs.LineMoves.{LinesMove, no_line}
use Rattle.fw_drive.proofs.Following.{none_went}
use Rattle.fw_drive.proofs.SourceRuns.{ran_line, stopped_at}
use Rattle.fw_drive.proofs.given.run_given_line.Goals as goal

pub returns-in-Ok : goal.returns-in-Ok
returns-in-Ok g c = (
  c.in-Ok-Some.said ∷ [],
  says [] [] no_more c.args.line.now c.in-Ok-Some.said (rw c.in-Ok-Some.field-0-is at c.in-Ok-Some.ensures.says),
  ran_line g.row.T-Heap.Denot g.D.Device.logs c.args.form c.args.device.now c.do_line.new.device
      (g.W.Write.contents c.args.out.now, c.args.notes.now.is_wrong) (g.W.Write.contents c.do_line.new.out, c.do_line.new.notes.is_wrong) c.args.driver.now c.do_line.new.driver
      c.in-Ok-Some.said c.in-Ok.ensures,
)

pub returns-in-Err-do_line : goal.returns-in-Err-do_line
returns-in-Err-do_line g c = (
  c.in-Ok-Some.said ∷ [],
  says [] [] no_more c.args.line.now c.in-Ok-Some.said (rw c.in-Ok-Some.field-0-is at c.in-Ok-Some.ensures.says),
  stopped_at g.row.T-Heap.Denot g.D.Device.logs c.args.form c.args.device.now c.do_line.new.device
      (g.W.Write.contents c.args.out.now, c.args.notes.now.is_wrong) (g.W.Write.contents c.do_line.new.out, c.do_line.new.notes.is_wrong) c.args.driver.now c.do_line.new.driver
      c.in-Err-do_line.stop c.in-Ok-Some.said c.in-Err-do_line.ensures,
)

pub returns-in-Ok-None : goal.returns-in-Ok-None
returns-in-Ok-None g c = (
  [],
  passed_over [] [] no_more c.args.line.now (rw c.in-Ok-None.field-0-is at c.in-Ok-None.ensures.says),
  none_went g.row.T-Heap.Denot g.D.Device.logs g.met.D.Device.stays c.args.form c.args.device.now
      (g.W.Write.contents c.args.out.now, c.args.notes.now.is_wrong) c.args.driver.now (LinesMove c.args.form []) no_line,
)

pub returns-in-Err : goal.returns-in-Err
returns-in-Err g c = (
  [],
  c.args.line.now,
  refl,
  omega arith,
  c.in-Err.ensures.judged,
  (
    [],
    no_more,
    none_went g.row.T-Heap.Denot g.D.Device.logs g.met.D.Device.stays c.args.form c.args.device.now
        (g.W.Write.contents c.args.out.now, c.args.notes.now.is_wrong) c.args.driver.now (LinesMove c.args.form []) no_line,
  ),
)
