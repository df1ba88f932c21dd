use Rattle.std.proofs.Common.{true≢false, refl, sym, arith}
use Rattle.fuse_spec.specs.Files.Operations.{done}
use Rattle.fuse_theorem.proofs.counterexamples.numbers_need_a_mount.Goals as goal

pub returns : goal.returns
returns g = (
  record { live = λ live. absurd (true≢false (sym live)); idle = λ dead. refl },
  (λ file. file, tt, refl),
  λ numbered. let below = numbered.replies_below 0 (record { number = 1; unique = 2; wire = done }) (omega arith) in
      omega (arith, below),
)
