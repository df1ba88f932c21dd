-- What lines make of a side by itself, one after another.
use Rattle.std.specs.Prelude.{ℕ, List, [], ◌∷◌, ◌++◌}

-- Lines are done, one after another: each makes this of a side.
pub data DoLines {S : Type 0} (Does : S → List ℕ → S → Type 0) (old : S) : List (List ℕ) → S → Type 0 where
  none : DoLines Does old [] old
  more : (before : List (List ℕ)) (mid : S) → DoLines Does old before mid → (text : List ℕ) (new : S) → Does mid text new
      → DoLines Does old (before ++ text ∷ []) new
