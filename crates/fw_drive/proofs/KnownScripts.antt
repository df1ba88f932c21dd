-- What holds of a script's text, where its bytes are known.
use Rattle.std.proofs.Common.{◌≡◌, ◌⊎◌, ℕ, List, inl, inr, subst}
use Rattle.std.specs.Prelude.{IfSome, Option, Some, None}

pub of_known : (P : List ℕ → Type 0) (known : Option (List ℕ)) (script : List ℕ) → IfSome known (λ bytes. script ≡ bytes)
    → P script → IfSome known P
of_known P None script is holds = tt
of_known P (Some bytes) script is holds = subst P is holds

pub good_or : (P : List ℕ → Type 0) (known : Option (List ℕ)) (script text : List ℕ) (Q : Type 0) → text ≡ script
    → IfSome known (λ bytes. script ≡ bytes) → P text ⊎ Q → IfSome known P ⊎ Q
good_or P known script text Q same is (inl holds) = inl (of_known P known script is (subst P same holds))
good_or P known script text Q same is (inr other) = inr other
