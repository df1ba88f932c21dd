-- The objects of a text, line by line.
use Rattle.std.specs.Prelude.{◌≡◌, ℕ, Bool, true, false, List, [], ◌∷◌, ◌++◌, Option}
use Rattle.std.specs.Io.KnownBytes.{Appends}
use Rattle.fuse_text.specs.Lines.{lines_of}
use Rattle.fw_json.specs.Objects.{json_line}

abbrev pub all_but_last : List (List ℕ) → List (List ℕ)
all_but_last [] = []
all_but_last (line ∷ []) = []
all_but_last (line ∷ next ∷ lines) = line ∷ all_but_last (next ∷ lines)

abbrev pub last_of : List (List ℕ) → List ℕ
last_of [] = []
last_of (line ∷ []) = line
last_of (line ∷ next ∷ lines) = last_of (next ∷ lines)

abbrev pub first_of : List (List ℕ) → List ℕ
first_of [] = []
first_of (line ∷ lines) = line

abbrev pub first_line : (text : List ℕ) → List ℕ
first_line text = first_of (lines_of text)

-- the lines that a line feed ends, and what stands behind the last line feed
abbrev pub whole_lines : (text : List ℕ) → List (List ℕ)
whole_lines text = all_but_last (lines_of text)

abbrev pub open_line : (text : List ℕ) → List ℕ
open_line text = last_of (lines_of text)

abbrev pub json_lines : (is_first : Bool) → List (List ℕ) → List ℕ
json_lines is_first [] = []
json_lines is_first (line ∷ lines) = json_line is_first line ++ json_lines false lines

-- the objects of the whole lines of a text
abbrev pub json_text : (text : List ℕ) → List ℕ
json_text text = json_lines true (whole_lines text)

abbrev pub is_none : List (List ℕ) → Bool
is_none [] = true
is_none (line ∷ lines) = false

-- A text was written since the output was `start`: now it has the objects of the whole lines, and what stands behind the
-- last line feed is kept. It is known whether the next object is the first.
pub record HasWritten (start : Option (List ℕ)) (text : List ℕ) (now : Option (List ℕ)) (kept : List ℕ) (is_first : Bool)
    : Type 0 where
  pub objects : Appends start now (json_text text)
  pub rest : kept ≡ open_line text
  pub first : is_first ≡ is_none (whole_lines text)
