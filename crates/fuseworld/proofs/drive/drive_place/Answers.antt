use Rattle.fuseworld.proofs.Statuses.{driven_four, driven_three}
use Rattle.fuseworld.proofs.drive.drive_place.Goals as goal

pub returns-in-Err : goal.returns-in-Err
returns-in-Err c = driven_three c.no_memory.result c.no_memory.ensures.status

pub returns : goal.returns
returns c = driven_four c.no_socket.result c.no_socket.ensures
