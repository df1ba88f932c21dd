use Rattle.std.proofs.Common.{[], None, refl}
use Rattle.std.specs.Prelude.{Err}
use Rattle.fk_drive.specs.Driven.{driven, waiting_in}
use Rattle.fk_drive.specs.Driving.{idle, nothing, releasing}
use Rattle.fk_drive.specs.Exchanges.{Ends}
use Rattle.fk_drive.specs.Releasing.{AwaitsRelease, ReleaseStep}
use Rattle.fk_drive.proofs.Drivings.{ends_on, went_on}
use Rattle.fk_drive.proofs.Noting.{noted_on}
use Rattle.fk_drive.proofs.Released.{awaits_release_on}
use Rattle.fk_drive.proofs.releasing.await_releasedir.Goals as goal

pub loop-frame-init : goal.loop-frame-init
loop-frame-init g c = (
  λ kernel. ([], g.met.D.Device.stays c.args.device.now, refl, nothing),
  ([], g.met.N.Notes.stays c.args.notes.now c.args.out.now),
)

pub loop-frame-preserved : goal.loop-frame-preserved
loop-frame-preserved g c = (
  λ kernel. went_on g.D.Device.logs g.met.D.Device.goes_on ReleaseStep (Ends None) (ends_on None)
      c.args.device.now c.loop-frame.device c.receive_released.new.device (driven kernel c.args.connection.now (releasing c.args.own))
      (driven kernel c.loop-frame.connection (releasing c.args.own)) (driven kernel c.receive_released.new.connection (releasing c.args.own))
      (c.loop-frame.invariant.0 kernel) (rw c.in-Ok-false.field-0-test at c.in-Ok-false.ensures.awaits kernel),
  noted_on g.N.Notes.notes g.met.N.Notes.goes_on c.args.notes.now c.loop-frame.notes c.receive_released.new.notes c.args.out.now c.loop-frame.out c.receive_released.new.out
      c.loop-frame.invariant.1 c.in-Ok-false.ensures.noted,
)

pub returns-in-Ok-true-clause-awaits : goal.returns-in-Ok-true-clause-awaits
returns-in-Ok-true-clause-awaits g c kernel =
    went_on g.D.Device.logs g.met.D.Device.goes_on ReleaseStep (Ends None) (ends_on None)
    c.args.device.now c.loop-frame.device c.receive_released.new.device (driven kernel c.args.connection.now (releasing c.args.own))
    (driven kernel c.loop-frame.connection (releasing c.args.own)) (driven kernel c.receive_released.new.connection idle)
    (c.loop-frame.invariant.0 kernel) (rw c.in-Ok-true.field-0-test at c.in-Ok-true.ensures.awaits kernel)

pub returns-in-Err-clause-awaits : goal.returns-in-Err-clause-awaits
returns-in-Err-clause-awaits g c kernel =
    let waiting = waiting_in c.receive_released.new.connection in
    went_on g.D.Device.logs g.met.D.Device.goes_on ReleaseStep (AwaitsRelease {T = Unit {0}} (Err c.in-Err.end) waiting)
    (awaits_release_on {T = Unit {0}} (Err c.in-Err.end) waiting)
    c.args.device.now c.loop-frame.device c.receive_released.new.device (driven kernel c.args.connection.now (releasing c.args.own))
    (driven kernel c.loop-frame.connection (releasing c.args.own)) (driven kernel c.receive_released.new.connection (releasing c.args.own))
    (c.loop-frame.invariant.0 kernel) (c.in-Err.ensures.awaits kernel)

pub returns-in-Ok-true-clause-noted : goal.returns-in-Ok-true-clause-noted
returns-in-Ok-true-clause-noted g c =
    noted_on g.N.Notes.notes g.met.N.Notes.goes_on c.args.notes.now c.loop-frame.notes c.receive_released.new.notes c.args.out.now c.loop-frame.out c.receive_released.new.out
    c.loop-frame.invariant.1 c.in-Ok-true.ensures.noted

pub returns-in-Err-clause-noted : goal.returns-in-Err-clause-noted
returns-in-Err-clause-noted g c =
    noted_on g.N.Notes.notes g.met.N.Notes.goes_on c.args.notes.now c.loop-frame.notes c.receive_released.new.notes c.args.out.now c.loop-frame.out c.receive_released.new.out
    c.loop-frame.invariant.1 c.in-Err.ensures.noted
