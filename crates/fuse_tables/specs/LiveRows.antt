-- Rows of which some are empty: a value that was taken out leaves its row, with its key, until the rows are squeezed.
use Rattle.std.specs.Prelude.{ℕ, List, [], ◌∷◌, Option, None, Some}

-- the entry of a row, if it has one, in front of others
abbrev pub entry_before : {V : Type 0} → ℕ → Option V → List (ℕ × V) → List (ℕ × V)
entry_before key None rest = rest
entry_before key (Some v) rest = (key, v) ∷ rest

-- the entries of the rows that are not empty
abbrev pub live : {V : Type 0} → List (ℕ × Option V) → List (ℕ × V)
live [] = []
live (row ∷ rows) = entry_before row.0 row.1 (live rows)
