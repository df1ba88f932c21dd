use Rattle.std.proofs.Common.{nat_eq, arith, ◌%◌}
use Rattle.std.proofs.lemmas.Grind.{common_steps}
use Rattle.fs_tests.proofs.tests.tables.keep_even.Goals as goal

pub retain-requires-clause-steady : goal.retain-requires-clause-steady
retain-requires-clause-steady g c = (λ k. nat_eq (k % 2) 0, λ k b says. grind (arith, common_steps))
