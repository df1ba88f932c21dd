-- How drawing a script ends, by its exit status.
use Rattle.std.specs.Prelude.{◌≡◌, ◌⊎◌, ℕ, List, [], ◌∷◌, Option, Contains, IfSome, codes}
use Rattle.std.specs.Io.KnownBytes.{Appends}
use Rattle.fw_draw.specs.Svg.{svg_text}
use Rattle.fuse_text.specs.Outputs.{AppendsSome}
use Rattle.fw_script.specs.Scripts.{IsGoodScript}
use Rattle.fw_script.specs.Stops.{SaysFault}

-- What becomes of an output and of standard error, of which `out` and `faults` say what they hold: 0 where the picture is
-- printed, 1 where the script is not read or has a bad line, 3 where memory runs out, 5 where the output refuses.
pub record EndsDrawing {W F : Type 0} (out : W → Option (List ℕ)) (faults : F → Option (List ℕ)) (name : List ℕ)
    (script : Option (List ℕ)) (old_out new_out : W) (old_faults new_faults : F) (status : ℕ) : Type 0 where
  pub statuses : Contains (0 ∷ 1 ∷ 3 ∷ 5 ∷ []) status
  -- Nothing is drawn of a script with a bad line.
  pub judged : (status ≡ 0) ⊎ (status ≡ 5) → IfSome script IsGoodScript
  pub printed : status ≡ 0 → (inner : List ℕ) × Appends (out old_out) (out new_out) (svg_text inner)
  pub silent : (status ≡ 1) ⊎ (status ≡ 3) → new_out ≡ old_out
  pub fault : status ≡ 1 → SaysFault name script (faults old_faults) (faults new_faults)
  pub no_memory : status ≡ 3 → AppendsSome (faults old_faults) (faults new_faults) (codes "no memory\n")
  pub no_fault : (status ≡ 0) ⊎ (status ≡ 5) → new_faults ≡ old_faults
