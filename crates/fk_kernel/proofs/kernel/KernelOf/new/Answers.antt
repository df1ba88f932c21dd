use Rattle.fk_kernel.proofs.InitialKernel.{sound_first}
use Rattle.fk_kernel.proofs.kernel.KernelOf.new.Goals as goal

pub invariant_of-result : goal.invariant_of-result
invariant_of-result g c = rw (
  c.new-2.ensures,
  c.new-3.ensures,
  c.new-4.ensures,
  c.new-5.ensures,
  c.new-7.ensures,
  c.new.ensures,
) (sound_first c.new-3.result.room c.new.result.room)
