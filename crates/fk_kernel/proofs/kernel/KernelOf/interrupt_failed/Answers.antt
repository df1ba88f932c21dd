use Rattle.std.proofs.Common.{rules}
use Rattle.fk_kernel.proofs.kernel.KernelOf.interrupt_failed.Goals as goal

pub returns-in-11 : goal.returns-in-11
returns-in-11 g c = search rules
