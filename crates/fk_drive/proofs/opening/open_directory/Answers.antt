use Rattle.std.proofs.Common.{[], ◌+◌, refl}
use Rattle.fk_drive.specs.Driven.{driven, waiting_in}
use Rattle.fk_drive.specs.Driving.{opening, opens, picked}
use Rattle.fk_drive.specs.Openings.{AwaitsUntil, turn_where}
use Rattle.fk_drive.specs.Steps.{SendStep}
use Rattle.fk_drive.proofs.Drivings.{one_run, went_on}
use Rattle.fk_drive.proofs.Ending.{awaits_as, awaits_on, sent_many}
use Rattle.fk_drive.proofs.opening.open_directory.Goals as goal

pub returns-in-Err-clause-sends : goal.returns-in-Err-clause-sends
returns-in-Err-clause-sends g c free_fields kernel request under lists =
    let (log, over, ends, sends) = c.in-Err.ensures in
    let first = c.args.connection.now in (
      log,
      over,
      awaits_as c.in-Err.end log ends,
      one_run (SendStep free_fields) (driven kernel first (picked request))
          (driven kernel (record first { next = first.next + 2 }) (opening request first.next c.args.listing.node)) log (
            opens request refl c.requires.asks c.requires.numbers c.args.listing.node lists c.opendir.result
                c.opendir.ensures log sends,
            tt,
          ),
    )

pub returns-in-Err-clause-many : goal.returns-in-Err-clause-many
returns-in-Err-clause-many g c =
    let (log, over, ends, sends) = c.in-Err.ensures in sent_many c.in-Err.end log (waiting_in c.args.connection.now) ends

pub returns-in-Ok-clause-sends : goal.returns-in-Ok-clause-sends
returns-in-Ok-clause-sends g c free_fields kernel request under lists =
    let (log, over, ends, sends) = c.in-Ok.ensures in
    let first = c.args.connection.now in
    let turn = opening request first.next c.args.listing.node in
    let mid = driven kernel (record first { next = first.next + 2 }) turn in
    went_on g.D.Device.logs g.met.D.Device.goes_on (SendStep free_fields) (AwaitsUntil c.await_opendir.result)
    (awaits_on c.await_opendir.result) c.args.device.now c.send_bytes.new.device
    c.await_opendir.new.device (driven kernel first (picked request)) mid
    (driven kernel c.await_opendir.new.connection
    (turn_where request first.next c.args.listing.node c.await_opendir.result)) (
      log,
      over,
      ends,
      one_run (SendStep free_fields) (driven kernel first (picked request)) mid log (
        opens request refl c.requires.asks c.requires.numbers c.args.listing.node lists c.opendir.result
            c.opendir.ensures log sends,
        tt,
      ),
    )
    (c.await_opendir.ensures.sends free_fields kernel request under)

pub returns-in-Err-clause-noted : goal.returns-in-Err-clause-noted
returns-in-Err-clause-noted g c = ([], g.met.N.Notes.stays c.args.notes.now c.args.out.now)
