use Rattle.std.proofs.Common.{[], None, refl}
use Rattle.fk_drive.specs.Driven.{driven}
use Rattle.fk_drive.specs.Driving.{nothing, opening}
use Rattle.fk_drive.specs.Exchanges.{Ends}
use Rattle.fk_drive.specs.Openings.{AwaitsUntil, turn_of}
use Rattle.fk_drive.specs.Steps.{SendStep}
use Rattle.fk_drive.specs.declared.opening.Awaited.TheVariants.{Ended}
use Rattle.fk_drive.proofs.Drivings.{ends_on, went_on}
use Rattle.fk_drive.proofs.Ending.{awaits_on}
use Rattle.fk_drive.proofs.Noting.{noted_on}
use Rattle.fk_drive.proofs.opening.await_opendir.Goals as goal

pub loop-frame-init : goal.loop-frame-init
loop-frame-init g c = (
  λ free_fields kernel request under. ([], g.met.D.Device.stays c.args.device.now, refl, nothing),
  ([], g.met.N.Notes.stays c.args.notes.now c.args.out.now),
)

pub loop-frame-preserved : goal.loop-frame-preserved
loop-frame-preserved g c = (
  λ free_fields kernel request under. let turn = opening request c.args.own c.args.listing.node in
      went_on g.D.Device.logs g.met.D.Device.goes_on (SendStep free_fields) (Ends None) (ends_on None)
      c.args.device.now c.loop-frame.device c.receive_said.new.device (driven kernel c.args.connection.now turn)
      (driven kernel c.loop-frame.connection turn) (driven kernel c.receive_said.new.connection turn)
      (c.loop-frame.invariant.0 free_fields kernel request under) (c.in-NotYet.ensures.sends free_fields kernel request under),
  noted_on g.N.Notes.notes g.met.N.Notes.goes_on c.args.notes.now c.loop-frame.notes c.receive_said.new.notes c.args.out.now c.loop-frame.out c.receive_said.new.out
      c.loop-frame.invariant.1 c.in-NotYet.ensures.noted,
)

pub returns-in-Said-clause-sends : goal.returns-in-Said-clause-sends
returns-in-Said-clause-sends g c free_fields kernel request under =
    let turn = opening request c.args.own c.args.listing.node in
    went_on g.D.Device.logs g.met.D.Device.goes_on (SendStep free_fields) (Ends None) (ends_on None)
    c.args.device.now c.loop-frame.device c.receive_said.new.device (driven kernel c.args.connection.now turn)
    (driven kernel c.loop-frame.connection turn) (driven kernel c.receive_said.new.connection (turn_of request c.in-Said.said))
    (c.loop-frame.invariant.0 free_fields kernel request under) (c.in-Said.ensures.sends free_fields kernel request under)

pub returns-in-Ended-clause-sends : goal.returns-in-Ended-clause-sends
returns-in-Ended-clause-sends g c free_fields kernel request under =
    let turn = opening request c.args.own c.args.listing.node in
    went_on g.D.Device.logs g.met.D.Device.goes_on (SendStep free_fields) (AwaitsUntil (Ended c.in-Ended.end)) (awaits_on (Ended c.in-Ended.end))
    c.args.device.now c.loop-frame.device c.receive_said.new.device (driven kernel c.args.connection.now turn)
    (driven kernel c.loop-frame.connection turn) (driven kernel c.receive_said.new.connection turn)
    (c.loop-frame.invariant.0 free_fields kernel request under) (c.in-Ended.ensures.sends free_fields kernel request under)

pub returns-in-Said-clause-noted : goal.returns-in-Said-clause-noted
returns-in-Said-clause-noted g c =
    noted_on g.N.Notes.notes g.met.N.Notes.goes_on c.args.notes.now c.loop-frame.notes c.receive_said.new.notes c.args.out.now c.loop-frame.out c.receive_said.new.out
    c.loop-frame.invariant.1 c.in-Said.ensures.noted

pub returns-in-Ended-clause-noted : goal.returns-in-Ended-clause-noted
returns-in-Ended-clause-noted g c =
    noted_on g.N.Notes.notes g.met.N.Notes.goes_on c.args.notes.now c.loop-frame.notes c.receive_said.new.notes c.args.out.now c.loop-frame.out c.receive_said.new.out
    c.loop-frame.invariant.1 c.in-Ended.ensures.noted
