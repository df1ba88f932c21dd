-- The parts of an answer's line.
use Rattle.std.proofs.Common.{◌≡◌, ◌++◌, ℕ, List, codes, sym, ap, ◌∙◌, append_assoc}

-- the words of a listed name
pub listed_parts : (m d k : List ℕ)
    → codes " " ++ m ++ codes ":" ++ d ++ codes ":" ++ k ≡ codes " " ++ (m ++ (codes ":" ++ d ++ codes ":" ++ k))
listed_parts m d k = simp append_assoc

-- the line of an answer
pub answer_parts : (s z words end : List ℕ) → s ++ (z ++ words) ++ end ≡ (s ++ z) ++ (words ++ end)
answer_parts s z words end =
    append_assoc s (z ++ words) end ∙ ap (λ (l : List ℕ). s ++ l) (append_assoc z words end)
    ∙ sym (append_assoc s z (words ++ end))
