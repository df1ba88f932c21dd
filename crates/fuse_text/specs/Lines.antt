-- The lines of a text, and how they are taken from an input.
use Rattle.std.specs.Prelude.{◌≡◌, ◌∷◌, [], ◌==◌, ℕ, Bool, true, false, List, Option, Some}
use Rattle.std.specs.List.{slice_split}
use Rattle.fuse_text.specs.Words.{parts_left}

-- the lines: what stands before, between and after the line feeds
abbrev pub lines_of : List ℕ → List (List ℕ)
lines_of text = slice_split (λ byte. byte == 10) text

-- the lines after the line feed that ends a line, none where no line feed does
abbrev pub lines_left : Option (List ℕ) → List (List ℕ)
lines_left rest = parts_left 10 rest

-- A line was taken from bytes, and more lines are left, or it was the last.
abbrev pub IsTaken : (bytes : List ℕ) → (is_more : Bool) → (line : List ℕ) → (left : Option (List ℕ)) → Type 0
IsTaken bytes true line left =
    (rest : List ℕ) × (left ≡ Some rest) × (lines_of bytes ≡ line ∷ lines_of rest)
IsTaken bytes false line left = lines_of bytes ≡ line ∷ []
