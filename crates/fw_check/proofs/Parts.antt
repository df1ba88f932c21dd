-- Texts that grow.
use Rattle.std.proofs.Common.{◌≡◌, ◌++◌, ℕ, List, Result, Ok, Err, ap, ◌∙◌, append_assoc}
use Rattle.std.specs.Prelude.{OnOk}

-- one part after another
pub two_parts : {T E : Type 0} (r : Result T E) (old mid new first second : List ℕ) → mid ≡ old ++ first
    → OnOk r (new ≡ mid ++ second) → OnOk r (new ≡ old ++ (first ++ second))
two_parts (Ok x) old mid new first second a b =
    b ∙ ap (λ (l : List ℕ). l ++ second) a ∙ append_assoc old first second
two_parts (Err e) old mid new first second a b = tt

pub after_two : (old mid new first second : List ℕ) → mid ≡ old ++ first → new ≡ mid ++ second
    → new ≡ old ++ (first ++ second)
after_two old mid new first second a b = b ∙ ap (λ (l : List ℕ). l ++ second) a ∙ append_assoc old first second
