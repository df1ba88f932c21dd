use Rattle.std.proofs.Common.{arith, refl}
use Rattle.fw_vectors.proofs.print.print_vectors.Goals as goal

pub returns-in_default : goal.returns-in_default
returns-in_default g c = record {
  statuses = (1, omega arith, refl);
  printed = λ at. absurd (cc at);
  silent = λ at. refl;
}

pub returns : goal.returns
returns g c = record {
  statuses = (2, omega arith, refl);
  printed = λ at. absurd (cc at);
  silent = λ at. absurd (cc at);
}
