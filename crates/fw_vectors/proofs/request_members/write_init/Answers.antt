use Rattle.std.proofs.Common.{append_assoc}
use Rattle.fw_vectors.proofs.request_members.write_init.Goals as goal

pub returns : goal.returns
returns g c = simp append_assoc (rw c.known_bits-flags.ensures at c.write.ensures.bytes)
