use Rattle.std.proofs.Common.{[], ◌∷◌, ℕ, arith, refl, subst, sym}
use Rattle.std.specs.Prelude.{Contains}
use Rattle.fw_orders.proofs.run.read_file.Goals as goal

pub returns-in-Err-clause-statuses : goal.returns-in-Err-clause-statuses
returns-in-Err-clause-statuses g c =
    let last : Contains (1 ∷ 3 ∷ []) 3 = (1, omega arith, refl) in
    subst (λ (status : ℕ). Contains (1 ∷ 3 ∷ []) status) (sym c.no_memory.ensures.status) last
