-- Words with one slash between each two, from a place on.
use Rattle.std.specs.Prelude.{◌≡◌, ◌≢◌, ℕ, ◌-◌, ◌<◌, ◌≤◌, List, [], ◌∷◌, Option, Some, None, All, length, drop}
use Rattle.fuse_spec.specs.Calls.Paths.{Name, split, word_fault}

-- The words that are left. With no place there is none.
abbrev pub words_from : List ℕ → Option ℕ → List Name
words_from bytes None = []
words_from bytes (Some place) = split [] (drop place bytes)

-- The place, if there is one, is not past the end.
abbrev pub IsPlace : List ℕ → Option ℕ → Type 0
IsPlace bytes None = Unit {0}
IsPlace bytes (Some place) = place ≤ length bytes

-- The second place, if there is one, comes after the first and has a slash before it.
abbrev pub IsBehindSlash : List ℕ → ℕ → Option ℕ → Type 0
IsBehindSlash bytes place None = Unit {0}
IsBehindSlash bytes place (Some next) = (place < next) × (drop (next - 1) bytes ≡ 47 ∷ drop next bytes)

-- All words but the first.
abbrev pub behind_first : List Name → List Name
behind_first [] = []
behind_first (word ∷ words) = words

-- A word has no slash and no fault but its place.
pub record IsWord (word : Name) : Type 0 where
  pub no_slash : All (λ b. b ≢ 47) word
  pub no_fault : word_fault 0 word ≡ None

-- Only such words are left.
pub record AreWords (bytes : List ℕ) (at : Option ℕ) : Type 0 where
  pub place : IsPlace bytes at
  pub words : All IsWord (words_from bytes at)
