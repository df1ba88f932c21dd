-- A script whose comments are what it prints when it is run.
use Rattle.std.specs.Prelude.{◌≡◌, ℕ, Bool, true, false, List, [], ◌∷◌, ◌++◌, ◌==◌, not}

-- a text with `# ` before each of its lines, but for the rest of one that was begun
abbrev pub commented : (is_begun : Bool) → List ℕ → List ℕ
commented is_begun [] = []
commented true (byte ∷ text) = byte ∷ commented (not (byte == 10)) text
commented false (byte ∷ text) = 35 ∷ 32 ∷ byte ∷ commented (not (byte == 10)) text

-- whether a line is begun behind it
abbrev pub is_begun_behind : (is_begun : Bool) → List ℕ → Bool
is_begun_behind is_begun [] = is_begun
is_begun_behind is_begun (byte ∷ text) = is_begun_behind (not (byte == 10)) text

-- a line of the script, alone in its line
abbrev pub script_line : (is_begun : Bool) → List ℕ → List ℕ
script_line true line = 10 ∷ line ++ 10 ∷ []
script_line false line = line ++ 10 ∷ []

-- Bytes of one line: a line feed is the last of them alone.
abbrev pub IsPiece : List ℕ → Type 0
IsPiece [] = Unit {0}
IsPiece (byte ∷ []) = Unit {0}
IsPiece (byte ∷ next ∷ text) = ((byte == 10) ≡ false) × IsPiece (next ∷ text)
