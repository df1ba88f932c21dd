-- The first part of a text, by the place of its first separator.
use Rattle.std.proofs.Common.{◌≡◌, ◌+◌, ◌<◌, ◌==◌, ◌≤◌, ◌^◌, ◌∙◌, ℕ, Bool, true, false, cond, nat_lt, get_or, List, [], ◌∷◌, length, take, drop, Option, Some, None, arith, ap, sym, refl}
use Rattle.std.specs.Prelude.{decimal, position, MatchOption}
use Rattle.std.specs.List.{join_with_byte, position_or_len, slice_split}
use Rattle.std.proofs.lemmas.List.Splits.{join_with_byte-slice_split, slice_split_first, slice_split_none, length-slice_split}
use Rattle.std.proofs.lemmas.List.Sums.{fails_before_first, position_or_len_is}
use Rattle.std.proofs.lemmas.List.{get_or_default}
use Rattle.std.proofs.lemmas.Bool.{eqb-true, false_from_ne_true, le-ltb, lt-ltb, ltb-true, ltb-false}
use Rattle.memchr.specs.Find.{IsFirstByte}
use Rattle.fuse_text.specs.Words.{words_of, HasWords}
use Rattle.fuse_text.proofs.Decimals.{decimal_is_digits, digit_at_each}

abbrev is_byte : ℕ → ℕ → Bool
is_byte separator byte = byte == separator

abbrev parts_of : ℕ → List ℕ → List (List ℕ)
parts_of separator text = slice_split (is_byte separator) text

-- the text is split at its first separator, and is one part where it has none
abbrev IsSplitAt : ℕ → List ℕ → Option ℕ → Type 0
IsSplitAt separator text o =
    MatchOption o (parts_of separator text ≡ text ∷ [])
    (λ end. (end < length text) × (parts_of separator text ≡ take end text ∷ parts_of separator (drop (end + 1) text)))

split_by_test : (separator : ℕ) (text : List ℕ) (found : Bool)
    → nat_lt (position_or_len (is_byte separator) text) (length text) ≡ found
    → IsSplitAt separator text (cond found (Some (position_or_len (is_byte separator) text)) None)
split_by_test separator text true h =
    let within : position_or_len (is_byte separator) text < length text = ltb-true _ _ h in
    (within, slice_split_first (is_byte separator) text 0 within)
split_by_test separator text false h =
    slice_split_none (is_byte separator) text
    (λ k d below. fails_before_first (is_byte separator) text k d (let past = ltb-false _ _ h in omega (arith, past)))

pub split_at_position : (separator : ℕ) (text : List ℕ) (o : Option ℕ) → o ≡ position (λ byte. byte == separator) text
    → MatchOption o (slice_split (λ byte. byte == separator) text ≡ text ∷ [])
    (λ end. (end < length text)
    × (slice_split (λ byte. byte == separator) text ≡ take end text ∷ slice_split (λ byte. byte == separator)
    (drop (end + 1) text)))
split_at_position separator text o e =
    rw e (split_by_test separator text (nat_lt (position_or_len (is_byte separator) text) (length text)) refl)

-- the first byte that a search gives is at that place
pub first_byte_is_position : (separator : ℕ) (text : List ℕ) (o : Option ℕ)
    → IsFirstByte (λ byte. byte == separator) text o
    → o ≡ position (λ byte. byte == separator) text
first_byte_is_position separator text None nowhere =
    let none : position_or_len (is_byte separator) text ≡ length text =
    position_or_len_is (is_byte separator) text (length text) 0 (omega arith)
    (λ k below. false_from_ne_true (is_byte separator (get_or text k 0)) (nowhere k (omega arith) below))
    (λ below. absurd (omega arith)) in
    rw (none, le-ltb (length text) (length text) (omega arith)) refl
first_byte_is_position separator text (Some end) found =
    let within = found.0.high in
    let first : position_or_len (is_byte separator) text ≡ end =
    position_or_len_is (is_byte separator) text end 0 (omega (arith, within))
    (λ k below. false_from_ne_true (is_byte separator (get_or text k 0)) (found.0.before k (omega arith) below))
    (λ below. found.1) in
    rw (first, lt-ltb end (length text) within) refl

-- a text is one word at least
pub words_of_some : (text : List ℕ) → 1 ≤ length (words_of text)
words_of_some text = let counted = length-slice_split (is_byte 32) text in omega (arith, counted)

-- a text after a space is one more word
pub one_more_word : (word text : List ℕ) → HasWords 1 (word ∷ words_of text) → ⊥
one_more_word word text h = let more = words_of_some text in omega (arith, h.0, more)

-- a text that is one word is that word
pub one_word_is_all : (text word : List ℕ) → words_of text ≡ word ∷ [] → text ≡ word
one_word_is_all text word e = sym (join_with_byte-slice_split 32 text) ∙ ap (join_with_byte 32) e

-- a number is one word
pub number_is_one_word : (n : ℕ) (text : List ℕ) → n < 2 ^ 64 → text ≡ decimal n → words_of text ≡ text ∷ []
number_is_one_word n text small e =
    let digits = decimal_is_digits n text small e in
    slice_split_none (is_byte 32) text
    (λ k d below.
    let same = get_or_default text k d 0 below in
    let digit = digit_at_each text digits.0 k below in
    false_from_ne_true (is_byte 32 (get_or text k d)) (λ space. let at = eqb-true (get_or text k d) 32 space in absurd (omega (arith, same, digit, at))))
