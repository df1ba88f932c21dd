use Rattle.std.proofs.Common.{[], None, refl, arith}
use Rattle.std.specs.Prelude.{Err}
use Rattle.std.proofs.lemmas.Result.{err_from_is_err_and}
use Rattle.fk_drive.specs.Driven.{driven}
use Rattle.fk_drive.specs.Driving.{nothing}
use Rattle.fk_drive.specs.Exchanges.{Ends}
use Rattle.fk_drive.specs.Receiving.{ReceivesUntil}
use Rattle.fk_drive.specs.Steps.{ReceiveStep}
use Rattle.fk_drive.proofs.Changes.{bytes}
use Rattle.fk_drive.proofs.Drivings.{ends_on, went_on}
use Rattle.fk_drive.proofs.Ending.{receives_on}
use Rattle.fk_drive.proofs.Noting.{noted_on}
use Rattle.fk_drive.proofs.WrittenNext.{no_items}
use Rattle.fk_drive.proofs.writing.receive_one.Goals as goal

pub loop-frame-init : goal.loop-frame-init
loop-frame-init g c = (
  λ kernel turn. ([], g.met.D.Device.stays c.args.device.now, refl, nothing),
  ([], g.met.N.Notes.stays c.args.notes.now c.args.out.now),
)

pub receive_next-requires : goal.receive_next-requires
receive_next-requires g c =
    let waiting = c.loop-frame.connection.waiting in
    no_items bytes waiting.items (omega (arith, waiting.ok.0, c.if-len-ne0.false, c.len.ensures))

pub loop-frame-preserved : goal.loop-frame-preserved
loop-frame-preserved g c = (
  λ kernel turn. went_on g.D.Device.logs g.met.D.Device.goes_on ReceiveStep (Ends None) (ends_on None) c.args.device.now
      c.loop-frame.device c.receive_next.new.device (driven kernel c.args.connection.now turn)
      (driven kernel c.loop-frame.connection turn) (driven kernel c.receive_next.new.connection turn)
      (c.loop-frame.invariant.0 kernel turn) (c.in_ok-receive_next.ensures.receives kernel turn),
  noted_on g.N.Notes.notes g.met.N.Notes.goes_on c.args.notes.now c.loop-frame.notes c.receive_next.new.notes c.args.out.now c.loop-frame.out c.receive_next.new.out
      c.loop-frame.invariant.1 c.in_ok-receive_next.ensures.noted,
)

pub returns-in_err-receive_next-clause-noted : goal.returns-in_err-receive_next-clause-noted
returns-in_err-receive_next-clause-noted g c =
    noted_on g.N.Notes.notes g.met.N.Notes.goes_on c.args.notes.now c.loop-frame.notes c.receive_next.new.notes c.args.out.now c.loop-frame.out c.receive_next.new.out
    c.loop-frame.invariant.1 c.in_err-receive_next.ensures.noted

pub returns-in_err-receive_next-clause-receives : goal.returns-in_err-receive_next-clause-receives
returns-in_err-receive_next-clause-receives g c kernel turn =
    let new = driven kernel c.receive_next.new.connection turn in
    let p = err_from_is_err_and c.from_residual.result c.from_residual.ensures.1 in
    rw (p.1, p.2) (went_on g.D.Device.logs g.met.D.Device.goes_on ReceiveStep (ReceivesUntil {T = Unit {0}} (Err c.in_err-receive_next.field-0.0) new)
    (receives_on {T = Unit {0}} (Err c.in_err-receive_next.field-0.0) new) c.args.device.now
    c.loop-frame.device c.receive_next.new.device (driven kernel c.args.connection.now turn)
    (driven kernel c.loop-frame.connection turn) new
    (c.loop-frame.invariant.0 kernel turn) (c.in_err-receive_next.ensures.receives kernel turn))

pub returns-else-len-ne0-2-clause-receives : goal.returns-else-len-ne0-2-clause-receives
returns-else-len-ne0-2-clause-receives g c kernel turn =
    let (log, over, ends, runs) = c.loop-frame.invariant.0 kernel turn in
    let waiting = c.loop-frame.connection.waiting in (
      log,
      over,
      (ends, no_items bytes waiting.items (omega (arith, waiting.ok.0, c.if-len-ne0-2.false, c.len-2.ensures))),
      runs,
    )
