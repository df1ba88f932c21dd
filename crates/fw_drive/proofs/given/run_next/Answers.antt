use Rattle.std.proofs.Common.{[], ◌∷◌, List, ℕ, refl, subst}
use Rattle.std.specs.Prelude.{Result, Ok, Err, Bool, true}
use Rattle.fw_drive.specs.Sources.{RunsGiven}
use Rattle.fw_drive.specs.declared.halt.Halt.{Halt}
use Rattle.fw_drive.proofs.SourceRuns.{gave, given_err, none_given, runs_kept}
use Rattle.fw_drive.proofs.given.run_next.Goals as goal

pub returns-in-Ok : goal.returns-in-Ok
returns-in-Ok g c =
    let r : Result Bool Halt = Ok true in (
      c.next_line.new.line.items ∷ [],
      rw c.in-Ok-true.field-0-test at c.in-Ok-true.ensures.given,
      runs_kept g.row.T-Heap.Denot g.D.Device.logs c.args.form r c.args.device.now c.run_given_line.new.device
          (g.W.Write.contents c.args.out.now) (g.W.Write.contents c.next_line.new.out) c.args.notes.now.is_wrong
          (g.W.Write.contents c.run_given_line.new.out, c.run_given_line.new.notes.is_wrong) c.args.driver.now c.run_given_line.new.driver [] c.args.number _
          c.in-Ok-true.ensures.silent
          (subst (λ (l : List ℕ). RunsGiven g.row.T-Heap.Denot g.D.Device.logs c.args.form c.args.device.now
          c.run_given_line.new.device (g.W.Write.contents c.next_line.new.out, c.args.notes.now.is_wrong) (g.W.Write.contents c.run_given_line.new.out, c.run_given_line.new.notes.is_wrong)
          c.args.driver.now c.run_given_line.new.driver [] c.args.number r (l ∷ [])) c.as_slice-line.ensures.value
          c.in-Ok.ensures),
      refl,
    )

pub returns-in-Err-run_given_line : goal.returns-in-Err-run_given_line
returns-in-Err-run_given_line g c =
    let r : Result Bool Halt = Err c.in-Err-run_given_line.halt in
    let q : Result (Unit {0}) Halt = Err c.in-Err-run_given_line.halt in (
      c.next_line.new.line.items ∷ [],
      gave g.S.LineSource.gives r c.args.source.now c.next_line.new.self (c.next_line.new.line.items ∷ [])
          (rw c.in-Ok-true.field-0-test at c.in-Ok-true.ensures.given),
      runs_kept g.row.T-Heap.Denot g.D.Device.logs c.args.form r c.args.device.now c.run_given_line.new.device
          (g.W.Write.contents c.args.out.now) (g.W.Write.contents c.next_line.new.out) c.args.notes.now.is_wrong
          (g.W.Write.contents c.run_given_line.new.out, c.run_given_line.new.notes.is_wrong) c.args.driver.now c.run_given_line.new.driver [] c.args.number _
          c.in-Ok-true.ensures.silent
          (given_err g.row.T-Heap.Denot g.D.Device.logs c.args.form (Unit {0}) Bool c.in-Err-run_given_line.halt c.args.device.now
          c.run_given_line.new.device (g.W.Write.contents c.next_line.new.out, c.args.notes.now.is_wrong) (g.W.Write.contents c.run_given_line.new.out, c.run_given_line.new.notes.is_wrong)
          c.args.driver.now c.run_given_line.new.driver [] c.args.number _
          (subst (λ (l : List ℕ). RunsGiven g.row.T-Heap.Denot g.D.Device.logs c.args.form c.args.device.now
          c.run_given_line.new.device (g.W.Write.contents c.next_line.new.out, c.args.notes.now.is_wrong) (g.W.Write.contents c.run_given_line.new.out, c.run_given_line.new.notes.is_wrong)
          c.args.driver.now c.run_given_line.new.driver [] c.args.number q (l ∷ []))
          c.as_slice-line.ensures.value c.in-Err-run_given_line.ensures)),
      tt,
    )

pub returns-in-Ok-false : goal.returns-in-Ok-false
returns-in-Ok-false g c =
    let (gives, over) : g.S.LineSource.gives c.args.source.now c.next_line.new.self [] × g.S.LineSource.is_over c.next_line.new.self =
    rw c.in-Ok-false.field-0-test at c.in-Ok-false.ensures.given in (
      [],
      gives,
      none_given g.row.T-Heap.Denot g.D.Device.logs c.args.form g.met.D.Device.stays c.args.device.now
          (g.W.Write.contents c.args.out.now) (g.W.Write.contents c.next_line.new.out) c.args.notes.now.is_wrong c.args.driver.now
          c.in-Ok-false.ensures.silent,
      (refl, over),
    )

pub returns-in-Err : goal.returns-in-Err
returns-in-Err g c = (
  [],
  (c.args.source.now, g.met.S.LineSource.stays c.args.source.now),
  none_given g.row.T-Heap.Denot g.D.Device.logs c.args.form g.met.D.Device.stays c.args.device.now
      (g.W.Write.contents c.args.out.now) (g.W.Write.contents c.next_line.new.out) c.args.notes.now.is_wrong c.args.driver.now
      c.in-Err.ensures.silent,
  tt,
)
