-- How drawing a capture ends, by its exit status.
use Rattle.std.specs.Prelude.{◌≡◌, ◌⊎◌, ℕ, List, [], ◌∷◌, Option, Contains}
use Rattle.std.specs.Io.KnownBytes.{Appends}
use Rattle.fw_draw.specs.Svg.{svg_text}

-- What becomes of an output, of which `out` says what it holds, and of standard error: 0 where the picture is printed, 1
-- where the capture is not read or has a bad line, 3 where memory runs out, 5 where the output refuses.
pub record EndsSequence {W F : Type 0} (out : W → Option (List ℕ)) (old_out new_out : W) (old_faults new_faults : F)
    (status : ℕ) : Type 0 where
  pub statuses : Contains (0 ∷ 1 ∷ 3 ∷ 5 ∷ []) status
  pub printed : status ≡ 0 → (inner : List ℕ) × Appends (out old_out) (out new_out) (svg_text inner)
  pub silent : (status ≡ 1) ⊎ (status ≡ 3) → new_out ≡ old_out
  pub no_fault : (status ≡ 0) ⊎ (status ≡ 5) → new_faults ≡ old_faults
