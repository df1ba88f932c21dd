use Rattle.std.proofs.Common.{refl}
use Rattle.fk_wire.specs.Fields.{bytes_of}
use Rattle.fk_wire.proofs.bodies.put_getattr.Goals as goal

pub returns : goal.returns
unfolding bytes_of
returns g c = rw c.put_two_u64.ensures.items refl
