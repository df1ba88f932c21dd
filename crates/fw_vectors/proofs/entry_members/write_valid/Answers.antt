use Rattle.std.proofs.Common.{append_assoc}
use Rattle.fw_vectors.specs.Members.{valid_members}
use Rattle.fw_vectors.proofs.entry_members.write_valid.Goals as goal

pub returns : goal.returns
unfolding valid_members
returns g c = simp append_assoc c.write.ensures.bytes
