-- How the run of a script ends, by its exit status.
use Rattle.std.specs.Prelude.{◌≡◌, ◌⊎◌, ℕ, List, [], ◌∷◌, Option, Contains, IfSome, codes}
use Rattle.std.specs.Io.KnownBytes.{Keeps}
use Rattle.fuse_text.specs.Outputs.{AppendsSome}
use Rattle.fw_script.specs.Scripts.{IsGoodScript, PrintsAll, PrintsFirst, PrintsSome}
use Rattle.fw_script.specs.Stops.{SaysFault}

-- What becomes of an output and of standard error, of which `out` and `faults` say what they hold, where a script is
-- judged and run: 0 where all of it ran, 1 where it is not read or has a bad line, 3 where memory runs out, 5 where the
-- output refuses. `IsRun` says what lines print.
pub record EndsScript {W F : Type 0} (out : W → Option (List ℕ)) (faults : F → Option (List ℕ))
    (IsRun : List (List ℕ) → List ℕ → Type 0) (name : List ℕ) (script : Option (List ℕ)) (old_out new_out : W)
    (old_faults new_faults : F) (status : ℕ) : Type 0 where
  pub statuses : Contains (0 ∷ 1 ∷ 3 ∷ 5 ∷ []) status
  -- Nothing is run of a script with a bad line.
  pub judged : (status ≡ 0) ⊎ (status ≡ 5) → IfSome script IsGoodScript
  pub silent : status ≡ 1 → new_out ≡ old_out
  -- What is printed is the text of the records of one run of all events that the script says.
  pub printed : status ≡ 0 → PrintsAll IsRun script (out old_out) (out new_out)
  -- Where memory runs out it is that of the script's first lines, or nothing.
  pub stopped : status ≡ 3 → Keeps (out old_out) (out new_out) ⊎ PrintsFirst IsRun script (out old_out) (out new_out)
  -- Where the output refuses it is a beginning of that.
  pub refused : status ≡ 5 → PrintsSome IsRun script (out old_out) (out new_out)
  pub fault : status ≡ 1 → SaysFault name script (faults old_faults) (faults new_faults)
  pub no_memory : status ≡ 3 → AppendsSome (faults old_faults) (faults new_faults) (codes "no memory\n")
  pub no_fault : (status ≡ 0) ⊎ (status ≡ 5) → new_faults ≡ old_faults
