-- How the check of a capture ends, by its exit status.
use Rattle.std.specs.Prelude.{◌≡◌, ◌⊎◌, ◌<◌, ◌+◌, ℕ, List, [], ◌∷◌, ◌++◌, Option, Contains, IfSome, codes, length}
use Rattle.std.specs.Io.KnownBytes.{Appends}
use Rattle.fuse_capture.specs.declared.line.CaptureFault.{CaptureFault}
use Rattle.fuse_capture.specs.Faults.{capture_fault_words}
use Rattle.fuse_capture.specs.Lines.{LineFaultIs}
use Rattle.fw_check.specs.declared.options.CheckOptions.{CheckOptions}
use Rattle.fw_check.specs.Checks.{Judged, Checks, end_text, finding_count}
use Rattle.fuse_text.specs.Lines.{lines_of}
use Rattle.fuse_text.specs.Outputs.{AppendsSome}
use Rattle.fuse_text.specs.Stops.{bad_line, unreadable}

-- What was printed of a capture whose bytes are known: its first lines were judged, and what is said of them printed.
pub record PrintsChecked (o : CheckOptions) (name capture : List ℕ) (out_old out_new faults_old faults_new : Option (List ℕ)) (status : ℕ)
    : Type 0 where
  pub done : List (List ℕ)
  pub rest : List (List ℕ)
  pub lines : lines_of capture ≡ done ++ rest
  pub judged : Judged
  pub checks : Checks o done judged
  -- to the end: 0 where there is no fault that is asked for, and in a strict check no warning, and 6 where there is one
  pub ended : (status ≡ 0) ⊎ (status ≡ 6)
      → (rest ≡ []) × Appends out_old out_new (judged.text ++ end_text o judged)
  pub right : status ≡ 0 → finding_count o.is_strict judged ≡ 0
  pub wrong : status ≡ 6 → 0 < finding_count o.is_strict judged
  -- up to a line that has a fault or cannot be read, or until memory runs out
  pub begun : (status ≡ 1) ⊎ (status ≡ 3) → Appends out_old out_new judged.text
  pub bad : status ≡ 1 → AppendsSome faults_old faults_new (unreadable name ++ codes "\n")
      ⊎ ((line : List ℕ) × (after : List (List ℕ)) × (f : CaptureFault) × (rest ≡ line ∷ after) × LineFaultIs line f
      × AppendsSome faults_old faults_new (bad_line (length done + 1) (capture_fault_words f) ++ codes "\n"))
  -- until the output refuses
  pub refused : status ≡ 5 → AppendsSome out_old out_new (judged.text ++ end_text o judged)

-- What becomes of an output and of standard error, of which `out` and `faults` say what they hold.
pub record EndsCheck {W F : Type 0} (out : W → Option (List ℕ)) (faults : F → Option (List ℕ)) (o : CheckOptions)
    (name : List ℕ) (capture : Option (List ℕ)) (old new : W) (old_faults new_faults : F) (status : ℕ) : Type 0 where
  pub statuses : Contains (0 ∷ 1 ∷ 3 ∷ 5 ∷ 6 ∷ []) status
  pub prints : IfSome capture
      (λ bytes. PrintsChecked o name bytes (out old) (out new) (faults old_faults) (faults new_faults) status)
