use Rattle.std.proofs.Common.{ℕ, [], ◌∷◌, subst, sym}
use Rattle.std.specs.Prelude.{Contains}
use Rattle.fuse_text.proofs.Statuses.{status_among}
use Rattle.fw_decode.proofs.decode.run_decode.Goals as goal

pub returns-in-Err : goal.returns-in-Err
returns-in-Err g c =
    subst (λ (status : ℕ). Contains (0 ∷ 1 ∷ 3 ∷ 5 ∷ []) status) (sym c.report.ensures.status)
    (status_among c.in-Err.stop)
