-- The words of the line that stands for another.
use Rattle.std.proofs.Common.{◌≡◌, ◌<◌, ◌≤◌, ◌-◌, ◌++◌, ◌∷◌, [], ◌&&◌, ◌∙◌, ℕ, zero, suc, Bool, true, false, cond, List, length, take, map, Option, Some, None, Result, Ok, Err, arith, ap, sym, refl, subst, leb-true}
use Rattle.std.specs.Prelude.{OnOk, bytes_eq, codes, decimal, flat_map, nat_le}
use Rattle.std.specs.List.{join_with_byte}
use Rattle.std.specs.Option.{option_map_or}
use Rattle.std.specs.Borrow.{Bor}
use Rattle.std.proofs.lemmas.List.{length-map, length-take, take-map}
use Rattle.fuse_text.specs.Words.{words_of}
use Rattle.fw_call_names.specs.Naming.{Named, Names, call_begun, names_bound, call_numbered, first_numbered, given_line, given_words, gives_name, is_name, is_of_open, next_line, no_line, number_of, rest_numbered, with_numbers, without_name, word_at}
use Rattle.fw_call_names.proofs.Joining.{AreWithout, IsWithout, decimal_without, joined_behind, parts_without, split_joined, some_words}

-- ---- words without a byte

either_are : (separator : ℕ) (test : Bool) (one other : List (List ℕ)) → AreWithout separator one → AreWithout separator other
    → AreWithout separator (cond test one other)
either_are separator true one other h k = h
either_are separator false one other h k = k

number_or_word : (separator : ℕ) (word : List ℕ) (number : Option ℕ) → separator < 48 → IsWithout separator word
    → IsWithout separator (option_map_or decimal number word)
number_or_word separator word None low none = none
number_or_word separator word (Some n) low none = decimal_without separator n low

first_without : (separator : ℕ) (names : Names) (words : List (List ℕ)) → separator < 48 → AreWithout separator words
    → AreWithout separator (first_numbered names words)
first_without separator names [] low none = none
first_without separator names (word ∷ words) low none =
    (number_or_word separator word (number_of names word) low none.0, none.1)

call_without : (separator : ℕ) (names : Names) (words : List (List ℕ)) → separator < 48 → AreWithout separator words
    → AreWithout separator (call_numbered names words)
call_without separator names [] low none = none
call_without separator names (word ∷ words) low none = (
  none.0,
  either_are separator (is_of_open word) (first_numbered names words) words (first_without separator names words low none.1)
      none.1,
)

rest_without : (separator : ℕ) (names : Names) (first : List ℕ) (words : List (List ℕ)) → separator < 48
    → AreWithout separator words → AreWithout separator (rest_numbered names first words)
rest_without separator names first words low none =
    either_are separator (bytes_eq first (codes "intr")) (first_numbered names words)
    (cond (bytes_eq first (codes "call")) (call_numbered names words) words) (first_without separator names words low none)
    (either_are separator (bytes_eq first (codes "call")) (call_numbered names words) words
    (call_without separator names words low none) none)

numbers_without : (separator : ℕ) (names : Names) (words : List (List ℕ)) → separator < 48 → AreWithout separator words
    → AreWithout separator (with_numbers names words)
numbers_without separator names [] low none = none
numbers_without separator names (first ∷ words) low none = (none.0, rest_without separator names first words low none.1)

taken_without : (separator n : ℕ) (words : List (List ℕ)) → AreWithout separator words
    → AreWithout separator (take n words)
taken_without separator zero words none = tt
taken_without separator (suc n) [] none = tt
taken_without separator (suc n) (word ∷ words) none = (none.0, taken_without separator n words none.1)

pub given_without : (separator : ℕ) (names : Names) (words : List (List ℕ)) → separator < 48 → AreWithout separator words
    → AreWithout separator (given_words names words)
given_without separator names words low none =
    numbers_without separator names (without_name words) low
    (either_are separator (gives_name words) (take (length words - 2) words) words
    (taken_without separator (length words - 2) words none) none)

-- ---- some word is left

first_of_four : (a b c d : Bool) → a && b && c && d ≡ true → a ≡ true
first_of_four true b c d h = refl
first_of_four false b c d h = h

five_words : (words : List (List ℕ)) → gives_name words ≡ true → 5 ≤ length words
five_words words h =
    leb-true 5 (length words)
    (first_of_four (nat_le 5 (length words)) (bytes_eq (word_at words 0) (codes "call"))
    (bytes_eq (word_at words (length words - 2)) (codes "as")) (is_name (word_at words (length words - 1))) h)

some_left : (words : List (List ℕ)) (test : Bool) → gives_name words ≡ test → 1 ≤ length words
    → 1 ≤ length (cond test (take (length words - 2) words) words)
some_left words true h some =
    let five = five_words words h in
    let taken = length-take (length words - 2) words in omega (arith, five, taken)
some_left words false h some = some

some_numbered : (names : Names) (words : List (List ℕ)) → 1 ≤ length words → 1 ≤ length (with_numbers names words)
some_numbered names [] some = some
some_numbered names (first ∷ words) some = omega arith

pub some_given : (names : Names) (words : List (List ℕ)) → 1 ≤ length words → 1 ≤ length (given_words names words)
some_given names words some =
    some_numbered names (without_name words) (some_left words (gives_name words) refl some)

-- ---- the line

pub words_of_given : (names : Names) (raw : List ℕ)
    → words_of (given_line names raw) ≡ given_words names (words_of raw)
words_of_given names raw =
    split_joined 32 (given_words names (words_of raw)) (some_given names (words_of raw) (some_words raw))
    (given_without 32 names (words_of raw) (omega arith) (parts_without 32 raw))

pub one_named : (names : Names) (begun : Option (List ℕ × ℕ)) (next_call : ℕ) (raw line : List ℕ) (new_names : Names)
    (new_begun : Option (List ℕ × ℕ)) → line ≡ given_line (names_bound names begun next_call) raw
    → new_names ≡ names_bound names begun next_call → new_begun ≡ call_begun next_call raw
    → Named names begun (raw ∷ []) (line ∷ []) new_names new_begun
one_named names begun next_call raw line new_names new_begun is names_are begun_is =
    subst (λ (n : Names). Named names begun (raw ∷ []) (line ∷ []) n new_begun) (sym names_are)
    (subst (λ (b : Option (List ℕ × ℕ)). Named names begun (raw ∷ []) (line ∷ []) (names_bound names begun next_call) b)
    (sym begun_is)
    (next_line [] [] names begun no_line next_call raw line
    (ap words_of is ∙ words_of_given (names_bound names begun next_call) raw)))

-- ---- what was put

pub made_of : {E : Type 0} (r : Result (Unit {0}) E) (cleared start new first : List ℕ) (rest all : List (List ℕ))
    → cleared ≡ [] → start ≡ cleared ++ first → all ≡ first ∷ rest
    → OnOk r (new ≡ start ++ flat_map (λ word. 32 ∷ word) rest) → OnOk r (new ≡ join_with_byte 32 all)
made_of (Ok done) cleared start new first rest all is_clear begins all_are put =
    put ∙ ap (λ (l : List ℕ). l ++ flat_map (λ word. 32 ∷ word) rest) (begins ∙ ap (λ (l : List ℕ). l ++ first) is_clear)
    ∙ sym (joined_behind 32 first rest) ∙ sym (ap (join_with_byte 32) all_are)
made_of (Err e) cleared start new first rest all is_clear begins all_are put = tt

pub words_kept : (words : List (Bor (List ℕ))) → gives_name (map (λ (word : Bor (List ℕ)). word.now) words) ≡ true
    → map (λ (word : Bor (List ℕ)). word.now) (take (length words - 2) words)
    ≡ without_name (map (λ (word : Bor (List ℕ)). word.now) words)
words_kept words gives =
    let now : Bor (List ℕ) → List ℕ = λ word. word.now in
    let counted : length (map now words) ≡ length words = length-map words now in
    sym (take-map now (length words - 2) words)
    ∙ ap (λ (n : ℕ). take (n - 2) (map now words)) (sym counted)
    ∙ ap (λ (b : Bool). cond b (take (length (map now words) - 2) (map now words)) (map now words)) (sym gives)
