-- Words and lines, joined by a byte that none of them has.
use Rattle.std.proofs.Common.{◌≡◌, ◌<◌, ◌≤◌, ◌%◌, ◌/◌, ◌++◌, ◌∷◌, [], ◌==◌, ◌∙◌, ℕ, zero, suc, Bool, true, false, cond, List, length, arith, ap, sym, refl, append-nil, eq-eqb}
use Rattle.std.specs.Prelude.{All, decimal, flat_map}
use Rattle.std.specs.Fmt.{digit_glyph, digits, digits_onto}
use Rattle.std.specs.List.{join_with_byte, onto_first, slice_split}
use Rattle.std.proofs.lemmas.List.Splits.{length-slice_split, slice_split_at, slice_split_none}

abbrev pub is_byte : ℕ → ℕ → Bool
is_byte separator byte = byte == separator

-- ---- texts without a byte

abbrev pub IsWithout : (separator : ℕ) → List ℕ → Type 0
IsWithout separator [] = Unit {0}
IsWithout separator (byte ∷ text) = (is_byte separator byte ≡ false) × IsWithout separator text

abbrev pub AreWithout : (separator : ℕ) → List (List ℕ) → Type 0
AreWithout separator [] = Unit {0}
AreWithout separator (text ∷ texts) = IsWithout separator text × AreWithout separator texts

none_passes : (separator : ℕ) (text : List ℕ) → IsWithout separator text
    → All (λ byte. is_byte separator byte ≡ false) text
none_passes separator [] none k d below = absurd (omega arith)
none_passes separator (byte ∷ text) none zero d below = none.0
none_passes separator (byte ∷ text) none (suc k) d below = none_passes separator text none.1 k d (omega arith)

-- ---- joined and split again

pub split_joined : (separator : ℕ) (texts : List (List ℕ)) → 1 ≤ length texts → AreWithout separator texts
    → slice_split (λ byte. byte == separator) (join_with_byte separator texts) ≡ texts
split_joined separator [] some none = absurd (omega (arith, some))
split_joined separator (text ∷ []) some none = slice_split_none (is_byte separator) text (none_passes separator text none.0)
split_joined separator (text ∷ next ∷ texts) some none =
    slice_split_at (is_byte separator) text separator (join_with_byte separator (next ∷ texts))
    (none_passes separator text none.0) (eq-eqb separator separator refl)
    ∙ ap (λ (parts : List (List ℕ)). text ∷ parts) (split_joined separator (next ∷ texts) (omega arith) none.1)

-- a text, and each further one behind the byte
pub joined_behind : (separator : ℕ) (text : List ℕ) (texts : List (List ℕ))
    → join_with_byte separator (text ∷ texts) ≡ text ++ flat_map (λ more. separator ∷ more) texts
joined_behind separator text [] = sym (append-nil text)
joined_behind separator text (next ∷ texts) =
    ap (λ (rest : List ℕ). text ++ (separator ∷ rest)) (joined_behind separator next texts)

-- ---- the parts of a text

pub some_words : (text : List ℕ) → 1 ≤ length (slice_split (λ byte. byte == 32) text)
some_words text = let counted = length-slice_split (is_byte 32) text in omega (arith, counted)

next_byte : (separator byte : ℕ) (passes : Bool) (parts : List (List ℕ)) → is_byte separator byte ≡ passes
    → AreWithout separator parts → AreWithout separator (cond passes ([] ∷ parts) (onto_first byte parts))
next_byte separator byte true parts is none = (tt, none)
next_byte separator byte false [] is none = ((is, tt), tt)
next_byte separator byte false (part ∷ parts) is none = ((is, none.0), none.1)

pub parts_without : (separator : ℕ) (text : List ℕ)
    → AreWithout separator (slice_split (λ byte. byte == separator) text)
parts_without separator [] = (tt, tt)
parts_without separator (byte ∷ text) =
    next_byte separator byte (is_byte separator byte) (slice_split (is_byte separator) text) refl
    (parts_without separator text)

-- ---- numbers

digit_not : (upper : Bool) (separator digit : ℕ) → separator < 48 → is_byte separator (digit_glyph upper digit) ≡ false
digit_not upper separator digit low = grind arith

either_without : (separator : ℕ) (test : Bool) (one other : List ℕ) → IsWithout separator one → IsWithout separator other
    → IsWithout separator (cond test one other)
either_without separator true one other h k = h
either_without separator false one other h k = k

digits_without : (k separator n : ℕ) (text : List ℕ) → separator < 48 → IsWithout separator text
    → IsWithout separator (digits_onto k 10 false n text)
digits_without zero separator n text low none = none
digits_without (suc k) separator n text low none =
    let digit = digit_glyph false (n % 10) in
    let here : IsWithout separator (digit ∷ text) = (digit_not false separator (n % 10) low, none) in
    either_without separator (n / 10 == 0) (digit ∷ text) (digits_onto k 10 false (n / 10) (digit ∷ text)) here
    (digits_without k separator (n / 10) (digit ∷ text) low here)

pub decimal_without : (separator n : ℕ) → separator < 48 → IsWithout separator (decimal n)
unfolding digits
decimal_without separator n low = digits_without 64 separator n [] low tt
