use Rattle.std.proofs.Common.{arith, refl}
use Rattle.fuseworld.proofs.draw.draw_run.Goals as goal

pub returns-in_default : goal.returns-in_default
returns-in_default c = rw c.no_memory.ensures.status (2, omega arith, refl)

pub returns-in-Err : goal.returns-in-Err
returns-in-Err c = rw c.no_memory-in-Err.ensures.status (2, omega arith, refl)
