-- The words of a line.
use Rattle.std.specs.Prelude.{◌≡◌, ◌<◌, ℕ, List, [], length, All, Option, Some, None, ◌==◌}
use Rattle.std.specs.List.{slice_split}

-- the parts after a separator, none where no separator is
abbrev pub parts_left : ℕ → Option (List ℕ) → List (List ℕ)
parts_left separator None = []
parts_left separator (Some text) = slice_split (λ byte. byte == separator) text

-- the words: what stands before, between and after the single spaces
abbrev pub words_of : List ℕ → List (List ℕ)
words_of text = slice_split (λ byte. byte == 32) text

-- the words after the space that ends a word, none where no space does
abbrev pub words_left : Option (List ℕ) → List (List ℕ)
words_left rest = parts_left 32 rest

-- this many words, none of them empty
abbrev pub HasWords : ℕ → List (List ℕ) → Type 0
HasWords count words = (length words ≡ count) × All (λ word. 0 < length word) words
