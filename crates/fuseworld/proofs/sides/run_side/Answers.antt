use Rattle.std.proofs.Common.{arith, refl}
use Rattle.fuseworld.proofs.Statuses.{at_end}
use Rattle.fuseworld.proofs.sides.run_side.Goals as goal

pub returns-in_default : goal.returns-in_default
returns-in_default c = rw c.no_memory.ensures.status (2, omega arith, refl)

pub returns-in_default-new : goal.returns-in_default-new
returns-in_default-new c = rw c.no_memory-in_default-new.ensures.status (2, omega arith, refl)

pub returns : goal.returns
returns c = at_end _ c.status_at.ensures
