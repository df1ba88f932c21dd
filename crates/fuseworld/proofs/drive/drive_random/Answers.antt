use Rattle.std.proofs.Common.{arith, refl}
use Rattle.fuseworld.proofs.drive.drive_random.Goals as goal

pub returns-in_default : goal.returns-in_default
returns-in_default g c = rw c.no_memory.ensures.status (2, omega arith, refl)
