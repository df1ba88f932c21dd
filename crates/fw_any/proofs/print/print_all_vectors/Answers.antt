use Rattle.std.proofs.Common.{arith, refl}
use Rattle.fw_any.proofs.print.print_all_vectors.Goals as goal

pub returns : goal.returns
returns g c = record {
  statuses = (2, omega arith, refl);
  printed = λ at. absurd (cc at);
  silent = λ at. absurd (cc at);
}
