-- A script without names, for one in which calls have names.
use Rattle.std.specs.Prelude.{◌≡◌, ◌⊎◌, ◌++◌, ◌∷◌, [], ℕ, List, decimal, option_to_list}
use Rattle.fuse_text.specs.Lines.{lines_of}
use Rattle.fuse_text.specs.Words.{words_of}
use Rattle.fw_call_names.specs.Naming.{Names, call_begun, given_line}

-- the names behind a line: as no call is made, each stands for call 1
abbrev pub names_behind : Names → (raw : List ℕ) → Names
names_behind names raw = names ++ option_to_list (call_begun 1 raw)

abbrev pub plain_lines : Names → (raw : List (List ℕ)) → List (List ℕ)
plain_lines names [] = []
plain_lines names (line ∷ lines) = given_line names line ∷ plain_lines (names_behind names line) lines

-- the lines of a script, with 1 in place of each name that an earlier line gave
abbrev pub plain_script : (script : List ℕ) → List (List ℕ)
plain_script script = plain_lines [] (lines_of script)

-- ---- what a run makes of them

-- two words that are one, or two numbers
abbrev pub IsAlike : (word other : List ℕ) → Type 0
IsAlike word other = (word ≡ other) ⊎ ((m : ℕ) × (n : ℕ) × (word ≡ decimal m) × (other ≡ decimal n))

abbrev pub AreAlike : (words others : List (List ℕ)) → Type 0
AreAlike [] [] = Unit {0}
AreAlike (word ∷ words) (other ∷ others) = IsAlike word other × AreAlike words others
AreAlike words others = ⊥

-- the given lines have the words of the first of these, but for numbers
abbrev pub BeginAlike : (lines given : List (List ℕ)) → Type 0
BeginAlike lines [] = Unit {0}
BeginAlike [] (other ∷ given) = ⊥
BeginAlike (line ∷ lines) (other ∷ given) = AreAlike (words_of line) (words_of other) × BeginAlike lines given
