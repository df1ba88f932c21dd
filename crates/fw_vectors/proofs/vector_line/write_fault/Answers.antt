use Rattle.std.proofs.Common.{append_assoc}
use Rattle.fw_vectors.specs.Vectors.{fault_members}
use Rattle.fw_vectors.proofs.vector_line.write_fault.Goals as goal

pub returns : goal.returns
unfolding fault_members
returns g c = simp append_assoc (rw (c.number-number.ensures, c.name-name.ensures) at c.write.ensures.bytes)
