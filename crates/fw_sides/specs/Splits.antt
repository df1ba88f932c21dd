-- A text that is split at its first space.
use Rattle.std.specs.Prelude.{ℕ, List, ◌∷◌, ◌++◌, Option, Some, None}

-- a word, and what follows the space behind it, if there is one
abbrev pub with_rest : List ℕ → Option (List ℕ) → List ℕ
with_rest word None = word
with_rest word (Some rest) = word ++ 32 ∷ rest
