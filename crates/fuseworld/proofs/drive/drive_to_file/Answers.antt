use Rattle.fuseworld.proofs.Statuses.{driven_three}
use Rattle.fuseworld.proofs.drive.drive_to_file.Goals as goal

pub returns-in-Err : goal.returns-in-Err
returns-in-Err c = driven_three c.no_memory.result c.no_memory.ensures.status
