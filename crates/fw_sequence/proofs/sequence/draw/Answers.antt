use Rattle.std.proofs.Common.{arith, refl}
use Rattle.fw_sequence.proofs.sequence.draw.Goals as goal

pub returns : goal.returns
returns g c = (1, omega arith, refl)
