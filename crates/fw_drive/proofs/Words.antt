-- The words of a line that opens a file.
use Rattle.std.proofs.Common.{◌≡◌, ℕ, List, [], ◌∷◌, get_or, sym, ap, subst, ◌∙◌}
use Rattle.fw_drive.specs.DriveLines.{IsFlagsWord, OpensWith}

pub no_flags : (words : List (List ℕ)) (first second path word : List ℕ) → words ≡ first ∷ second ∷ path ∷ word ∷ []
    → ((flags : ℕ) → ¬ (IsFlagsWord flags word)) → (p : List ℕ) (flags : ℕ) → ¬ (OpensWith p flags words)
no_flags words first second path word is none p flags (w, same, text, long, flagged) =
    none flags (subst (IsFlagsWord flags) (ap (λ (ws : List (List ℕ)). get_or ws 3 []) (sym same ∙ is)) flagged)
