use Rattle.std.proofs.Common.{[]}
use Rattle.fk_drive.proofs.Released.{releases_awaiting, releases_failed, releases_no}
use Rattle.fk_drive.proofs.releasing.release.Goals as goal

pub returns-in-Ok-Some-clause-releases : goal.returns-in-Ok-Some-clause-releases
returns-in-Ok-Some-clause-releases g c kernel =
    releases_awaiting kernel g.D.Device.logs g.met.D.Device.goes_on c.args.device.now c.release_behind.new.device c.args.frame.now
    c.args.connection.now c.release_behind.new.connection c.release_behind.ensures.same c.await_releasedir.new.device
    c.await_releasedir.new.connection c.in-Ok-Some.own c.await_releasedir.result (rw c.in-Ok-Some.field-0-is at c.in-Ok-Some.ensures.releases)
    (c.await_releasedir.ensures.awaits kernel)

pub returns-in-Ok-None-clause-releases : goal.returns-in-Ok-None-clause-releases
returns-in-Ok-None-clause-releases g c kernel =
    releases_no kernel g.D.Device.logs g.met.D.Device.goes_on c.args.device.now c.release_behind.new.device c.args.frame.now
    c.args.connection.now c.release_behind.new.connection c.release_behind.ensures.same tt (rw c.in-Ok-None.field-0-is at c.in-Ok-None.ensures.releases)

pub returns-in-Err-clause-releases : goal.returns-in-Err-clause-releases
returns-in-Err-clause-releases g c kernel =
    releases_failed kernel g.D.Device.logs g.met.D.Device.goes_on c.args.device.now c.release_behind.new.device c.args.frame.now
    c.args.connection.now c.release_behind.new.connection c.release_behind.ensures.same c.in-Err.end c.in-Err.ensures.releases

pub returns-in-Ok-None-clause-noted : goal.returns-in-Ok-None-clause-noted
returns-in-Ok-None-clause-noted g c = ([], g.met.N.Notes.stays c.args.notes.now c.args.out.now)

pub returns-in-Err-clause-noted : goal.returns-in-Err-clause-noted
returns-in-Err-clause-noted g c = ([], g.met.N.Notes.stays c.args.notes.now c.args.out.now)
