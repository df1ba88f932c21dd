use Rattle.fuseworld.proofs.Statuses.{driven_with}
use Rattle.fuseworld.proofs.drive.drive_judged.Goals as goal

pub returns : goal.returns
returns g c =
    driven_with c.drive_device-status.result c.status_beside.result c.drive_device-status.ensures c.status_beside.ensures
