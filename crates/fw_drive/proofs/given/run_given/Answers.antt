use Rattle.std.proofs.Common.{◌≡◌, [], ◌++◌, arith, refl, length, length-append}
use Rattle.std.specs.Prelude.{Bool, Result, Ok, Err}
use Rattle.fw_drive.specs.Judging.{no_more}
use Rattle.fw_drive.specs.LineMoves.{LinesMove, no_line}
use Rattle.fw_drive.specs.declared.halt.Halt.{Halt}
use Rattle.fw_drive.proofs.Following.{none_went}
use Rattle.fw_drive.proofs.SourceRuns.{gave_then, given_err, runs_then}
use Rattle.fw_drive.proofs.given.run_given.Goals as goal

pub loop-number-init : goal.loop-number-init
loop-number-init g c = (
  [],
  g.met.S.LineSource.stays c.args.source.now,
  refl,
  (
    [],
    no_more,
    none_went g.row.T-Heap.Denot g.D.Device.logs g.met.D.Device.stays c.args.form c.args.device.now
        (g.W.Write.contents c.args.out.now, c.args.notes.now.is_wrong) c.args.driver.now (LinesMove c.args.form []) no_line,
  ),
)

pub loop-number-preserved : goal.loop-number-preserved
loop-number-preserved g c =
    let (lines, gives, counted, (said, say, ran)) = c.loop-number.invariant in
    let (more, gave, runs, matched) = c.in-Ok-true.ensures in
    let one : length more ≡ 1 = rw c.in-Ok-true.field-0-test at matched in
    let r : Result (Unit {0}) Halt = Ok tt in
    let size = length-append lines more in (
      lines ++ more,
      g.met.S.LineSource.goes_on c.args.source.now c.loop-number.source c.run_next.new.source lines more gives gave,
      omega (arith, counted, one, size),
      runs_then g.row.T-Heap.Denot g.D.Device.logs g.met.D.Device.goes_on c.args.form r c.args.device.now
          c.loop-number.device c.run_next.new.device (g.W.Write.contents c.args.out.now, c.args.notes.now.is_wrong)
          (g.W.Write.contents c.loop-number.out, c.loop-number.notes.is_wrong) (g.W.Write.contents c.run_next.new.out, c.run_next.new.notes.is_wrong) c.args.driver.now
          c.loop-number.driver c.run_next.new.driver [] said c.loop-number.number 1 lines more counted say ran runs,
    )

pub returns-in-Ok-false : goal.returns-in-Ok-false
returns-in-Ok-false g c =
    let (lines, gives, counted, (said, say, ran)) = c.loop-number.invariant in
    let (more, gave, runs, matched) = c.in-Ok-false.ensures in
    let (none, over) : (more ≡ []) × g.S.LineSource.is_over c.run_next.new.source = rw c.in-Ok-false.field-0-test at matched in
    let r : Result (Unit {0}) Halt = Ok tt in record {
      lines = lines ++ more;
      gave =
          g.met.S.LineSource.goes_on c.args.source.now c.loop-number.source c.run_next.new.source lines more gives gave;
      over = over;
      runs =
          runs_then g.row.T-Heap.Denot g.D.Device.logs g.met.D.Device.goes_on c.args.form r c.args.device.now
          c.loop-number.device c.run_next.new.device (g.W.Write.contents c.args.out.now, c.args.notes.now.is_wrong)
          (g.W.Write.contents c.loop-number.out, c.loop-number.notes.is_wrong) (g.W.Write.contents c.run_next.new.out, c.run_next.new.notes.is_wrong) c.args.driver.now
          c.loop-number.driver c.run_next.new.driver [] said c.loop-number.number 1 lines more counted say ran runs;
    }

pub returns-in-Err : goal.returns-in-Err
returns-in-Err g c =
    let (lines, gives, counted, (said, say, ran)) = c.loop-number.invariant in
    let (more, gave, runs, rest) = c.in-Err.ensures in
    let r : Result (Unit {0}) Halt = Err c.in-Err.halt in record {
      lines = lines ++ more;
      gave =
          gave_then g.S.LineSource.gives g.met.S.LineSource.goes_on Bool (Unit {0}) c.in-Err.halt c.args.source.now c.loop-number.source
          c.run_next.new.source lines more gives gave;
      over = tt;
      runs =
          runs_then g.row.T-Heap.Denot g.D.Device.logs g.met.D.Device.goes_on c.args.form r c.args.device.now
          c.loop-number.device c.run_next.new.device (g.W.Write.contents c.args.out.now, c.args.notes.now.is_wrong)
          (g.W.Write.contents c.loop-number.out, c.loop-number.notes.is_wrong) (g.W.Write.contents c.run_next.new.out, c.run_next.new.notes.is_wrong) c.args.driver.now
          c.loop-number.driver c.run_next.new.driver [] said c.loop-number.number 1 lines more counted say ran
          (given_err g.row.T-Heap.Denot g.D.Device.logs c.args.form Bool (Unit {0}) c.in-Err.halt c.loop-number.device
          c.run_next.new.device (g.W.Write.contents c.loop-number.out, c.loop-number.notes.is_wrong) (g.W.Write.contents c.run_next.new.out, c.run_next.new.notes.is_wrong)
          c.loop-number.driver c.run_next.new.driver [] c.loop-number.number more runs);
    }

pub returns : goal.returns
returns g c =
    let (lines, gives, counted, runs) = c.loop-number.invariant in record {
      lines = lines;
      gave = (c.loop-number.source, gives);
      over = tt;
      runs = runs;
    }
