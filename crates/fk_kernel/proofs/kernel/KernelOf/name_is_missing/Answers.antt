use Rattle.std.proofs.Common.{rules}
use Rattle.fk_kernel.proofs.kernel.KernelOf.name_is_missing.Goals as goal

pub returns-clause-bound : goal.returns-clause-bound
returns-clause-bound g c = search rules
