-- Lines of a script in which calls have names, and the lines that stand for them.
use Rattle.std.specs.Prelude.{◌≡◌, ◌-◌, ◌++◌, ◌∷◌, ◌==◌, ◌&&◌, ◌||◌, [], ℕ, Bool, false, List, Option, Some, None, bytes_eq, codes, decimal, fold, get_or, length, nat_le, option_map, take, if◌then◌else◌}
use Rattle.std.specs.List.{join_with_byte}
use Rattle.std.specs.Option.{option_map_or}
use Rattle.fuse_text.specs.Words.{words_of}

-- ---- names

-- the calls that have names, with their numbers, the newest last
abbrev pub Names : Type 0
Names = List (List ℕ × ℕ)

abbrev pub is_letter : ℕ → Bool
is_letter byte = (nat_le 97 byte && nat_le byte 122) || (nat_le 65 byte && nat_le byte 90)

-- a word that begins with a letter
abbrev pub is_name : List ℕ → Bool
is_name [] = false
is_name (byte ∷ bytes) = is_letter byte

-- the number of a call if it has this name, else the one that was found before
abbrev pub newer : (word : List ℕ) → Option ℕ → List ℕ × ℕ → Option ℕ
newer word found call = if bytes_eq call.0 word then Some call.1 else found

-- the number of the newest call with this name
abbrev pub number_of : Names → (word : List ℕ) → Option ℕ
number_of names word = fold (newer word) None names

-- the number of the call that a word names; any other word stays
abbrev pub numbered : Names → (word : List ℕ) → List ℕ
numbered names word = option_map_or decimal (number_of names word) word

-- ---- words that name a call

abbrev pub first_numbered : Names → List (List ℕ) → List (List ℕ)
first_numbered names [] = []
first_numbered names (word ∷ words) = numbered names word ∷ words

-- the calls on a file that another call opened
abbrev pub is_of_open : (word : List ℕ) → Bool
is_of_open word = bytes_eq word (codes "read") || bytes_eq word (codes "write") || bytes_eq word (codes "close")

-- the words behind `call`
abbrev pub call_numbered : Names → List (List ℕ) → List (List ℕ)
call_numbered names [] = []
call_numbered names (word ∷ words) = word ∷ (if is_of_open word then first_numbered names words else words)

-- the words behind the first
abbrev pub rest_numbered : Names → (first : List ℕ) → List (List ℕ) → List (List ℕ)
rest_numbered names first words =
    if bytes_eq first (codes "intr") then first_numbered names words else
    if bytes_eq first (codes "call") then call_numbered names words else words

-- the words of a line, with the number of the call that it names: behind `intr`, and behind `call` and a call on a file
abbrev pub with_numbers : Names → List (List ℕ) → List (List ℕ)
with_numbers names [] = []
with_numbers names (first ∷ words) = first ∷ rest_numbered names first words

-- ---- words that name a call which they begin

abbrev pub word_at : List (List ℕ) → (place : ℕ) → List ℕ
word_at words place = get_or words place []

-- a call that ends with `as` and a name: of five words at least, since `as` may be the path of a shorter one
abbrev pub gives_name : List (List ℕ) → Bool
gives_name words =
    nat_le 5 (length words) && bytes_eq (word_at words 0) (codes "call")
    && bytes_eq (word_at words (length words - 2)) (codes "as") && is_name (word_at words (length words - 1))

abbrev pub name_in : List (List ℕ) → Option (List ℕ)
name_in words = if gives_name words then Some (word_at words (length words - 1)) else None

abbrev pub without_name : List (List ℕ) → List (List ℕ)
without_name words = if gives_name words then take (length words - 2) words else words

-- ---- the line that stands for another

abbrev pub given_words : Names → List (List ℕ) → List (List ℕ)
given_words names words = with_numbers names (without_name words)

abbrev pub given_line : Names → (raw : List ℕ) → List ℕ
given_line names raw = join_with_byte 32 (given_words names (words_of raw))

-- the call that a line begins and names, with the number that it gets where it is not refused
abbrev pub call_begun : (next_call : ℕ) → (raw : List ℕ) → Option (List ℕ × ℕ)
call_begun next_call raw = option_map (λ name. (name, next_call)) (name_in (words_of raw))

-- the number of a call that was begun: if the next call still gets it, the call was refused, and has that of none, 0
abbrev pub number_made : (number next_call : ℕ) → ℕ
number_made number next_call = if next_call == number then 0 else number

-- the names once the call that was begun was made
abbrev pub names_bound : Names → (begun : Option (List ℕ × ℕ)) → (next_call : ℕ) → Names
names_bound names None next_call = names
names_bound names (Some call) next_call = names ++ (call.0, number_made call.1 next_call) ∷ []

-- From these names, and the call that was begun, the given lines stand for the raw ones. Each is given as the next call
-- has some number.
pub data Named (names : Names) (begun : Option (List ℕ × ℕ)) : (raw given : List (List ℕ)) → Names
    → Option (List ℕ × ℕ) → Type 0 where
  no_line : Named names begun [] [] names begun
  next_line : (raw given : List (List ℕ)) (old : Names) (before : Option (List ℕ × ℕ))
      → Named names begun raw given old before → (next_call : ℕ) (line stands : List ℕ)
      → words_of stands ≡ given_words (names_bound old before next_call) (words_of line)
      → Named names begun (raw ++ line ∷ []) (given ++ stands ∷ []) (names_bound old before next_call)
      (call_begun next_call line)
