-- How a path names a file: words, separated by one slash each, behind a leading slash. (this project's rule)
use Rattle.std.specs.Prelude.{ℕ, ◌+◌, Bool, true, false, ◌||◌, cond, List, [], ◌∷◌, ◌++◌, Option, Some, None, Result, Ok, Err, length, nat_eq, nat_lt, nat_le}
use Rattle.std.specs.List.{list_any}
use Rattle.fuse_spec.specs.Values.Numbers.{einval, enametoolong, max_words, max_name}

-- A name is its bytes. (POSIX, pathname)
abbrev pub Name : Type 0
Name = List ℕ

-- Whether the word is empty, `.` or `..`.
abbrev pub is_dots : Name → Bool
is_dots [] = true
is_dots (a ∷ []) = nat_eq a 46
is_dots (a ∷ b ∷ []) = cond (nat_eq a 46) (nat_eq b 46) false
is_dots (a ∷ b ∷ c ∷ rest) = false

-- The error number of the word at this place of a path, if it can't be walked: a place or a length past the limit is
-- ENAMETOOLONG; no byte, `.`, `..` or a NUL is EINVAL. (this project's rule)
abbrev pub word_fault : ℕ → Name → Option ℕ
word_fault place word =
    cond (nat_le max_words place) (Some enametoolong)
    (cond (is_dots word || list_any (λ b. nat_eq b 0) word) (Some einval)
    (cond (nat_lt max_name (length word)) (Some enametoolong) None))

-- The words between the slashes, of which `word` has been read of the first.
abbrev pub split : Name → List ℕ → List Name
split word [] = word ∷ []
split word (b ∷ bytes) = cond (nat_eq b 47) (word ∷ split [] bytes) (split (word ++ b ∷ []) bytes)

-- The first fault of these words, of which the first stands at this place.
abbrev pub first_fault : ℕ → List Name → Option ℕ
first_fault place [] = None
first_fault place (word ∷ words) = elim (word_fault place word) [
  | Some fault ↦ Some fault
  | None ↦ first_fault
      (place + 1) words
]

-- The next two are the words of a path, or the error number of its first fault; a path without a leading slash is
-- EINVAL.
abbrev pub unless_faulty : List Name → Option ℕ → Result (List Name) ℕ
unless_faulty words None = Ok words
unless_faulty words (Some fault) = Err fault

abbrev pub path_words_of : List ℕ → Result (List Name) ℕ
path_words_of [] = Err einval
path_words_of (first ∷ []) = cond (nat_eq first 47) (Ok []) (Err einval)
path_words_of (first ∷ b ∷ bytes) = cond (nat_eq first 47)
    (unless_faulty (split [] (b ∷ bytes)) (first_fault 0 (split [] (b ∷ bytes)))) (Err einval)

-- The words before the last, and the last.
abbrev pub parent_and_last : List Name → Option (List Name × Name)
parent_and_last [] = None
parent_and_last (word ∷ words) = elim (parent_and_last words) [
  | None ↦ Some ([], word)
  | Some parts ↦ Some
      (word ∷ parts.0, parts.1)
]
