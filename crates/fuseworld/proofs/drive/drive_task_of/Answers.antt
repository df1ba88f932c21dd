use Rattle.fuseworld.proofs.Statuses.{not_driven}
use Rattle.fuseworld.proofs.drive.drive_task_of.Goals as goal

pub returns-in-Err : goal.returns-in-Err
returns-in-Err c = not_driven c.in-Err.status c.in-Err.ensures
