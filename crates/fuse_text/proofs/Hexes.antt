-- Lower-case hex, read and written.
use Rattle.std.proofs.Common.{◌≡◌, ◌+◌, ◌-◌, ◌*◌, ◌/◌, ◌%◌, ◌<◌, ◌≤◌, ◌==◌, ◌&&◌, ◌++◌, ℕ, zero, suc, Bool, true, if◌then◌else◌, nat_lt, List, [], ◌∷◌, length, set, take, drop, slice_index, Ok, Some, arith, refl, sym, ap, ◌∙◌, inl, inr}
use Rattle.std.specs.Prelude.{All}
use Rattle.std.proofs.lemmas.Bool.{and_parts, cases_lt, eqb-true, le-ltb, lt-ltb}
use Rattle.std.proofs.Math.Seq.{take-add, take-suc-set}
use Rattle.std.proofs.lemmas.List.{take_all}
use Rattle.std.proofs.lemmas.List.Elements.{All-cons, All-nil, All-tail}
use Rattle.hex.specs.Hex.{IsBytes, decode_of, decode_pairs, digit_or_error, hex_digit_value, encode_lower, encode_with, lower_digits, pair_value, value_at}
use Rattle.hex.proofs.HexLemmas.{IsDigits-lower_digits, decode_of-even, length-encode_with}
use Rattle.hex.proofs.Pairs.{cons_byte, decode_pairs-ok_pair}
use Rattle.fuse_text.specs.HexTexts.{IsHex, IsLowerDigit, SpellsHex}

-- ---- the sixteen digits

-- the digit of a value
abbrev digit_of : ℕ → ℕ
digit_of v = if nat_lt v 10 then 48 + v else 87 + v

-- the table has these digits, below a place: a test that computes
abbrev has_digits : ℕ → Bool
has_digits zero = true
has_digits (suc n) = (slice_index lower_digits n == digit_of n) && has_digits n

has_digits-at : (n v : ℕ) → has_digits n ≡ true → v < n → slice_index lower_digits v ≡ digit_of v
has_digits-at zero v h lt = absurd (omega arith)
has_digits-at (suc n) v h lt =
    let parts = and_parts (slice_index lower_digits n == digit_of n) (has_digits n) h in
    elim (cases_lt v n) [
      | inl below ↦ has_digits-at n v parts.1 below
      | inr top ↦
          let last : v ≡ n = omega arith in
          rw last (eqb-true _ _ parts.0)
    ]

digit_of-low : (v : ℕ) → v < 10 → digit_of v ≡ 48 + v
digit_of-low v h = rw (lt-ltb v 10 h) refl

digit_of-high : (v : ℕ) → 10 ≤ v → digit_of v ≡ 87 + v
digit_of-high v h = rw (le-ltb v 10 h) refl

-- what a digit stands for is in the table at its value
pub digit_to_nine : (c : ℕ) → 48 ≤ c → c ≤ 57 → slice_index lower_digits (c - 48) ≡ c
digit_to_nine c from to =
    let digit = digit_of-low (c - 48) (omega arith) in
    let same : 48 + (c - 48) ≡ c = omega arith in
    has_digits-at 16 (c - 48) refl (omega arith) ∙ digit ∙ same

pub digit_from_ten : (c : ℕ) → 97 ≤ c → c ≤ 102 → slice_index lower_digits (c - 87) ≡ c
digit_from_ten c from to =
    let digit = digit_of-high (c - 87) (omega arith) in
    let same : 87 + (c - 87) ≡ c = omega arith in
    has_digits-at 16 (c - 87) refl (omega arith) ∙ digit ∙ same

-- the value of a lower-case digit
value_of_digit : (c : ℕ) → IsLowerDigit c → (v : ℕ) × (v < 16) × (slice_index lower_digits v ≡ c)
value_of_digit c (inl h) = (c - 48, omega arith, digit_to_nine c h.0 h.1)
value_of_digit c (inr h) = (c - 87, omega arith, digit_from_ten c h.0 h.1)

-- and the digit of a value
digit_of_value : (v : ℕ) → v < 16 → IsLowerDigit (slice_index lower_digits v)
digit_of_value v h =
    let is = has_digits-at 16 v refl h in
    elim (cases_lt v 10) [
      | inl low ↦ rw (is, digit_of-low v low) (inl (omega arith, omega arith))
      | inr high ↦ rw (is, digit_of-high v (omega arith)) (inr (omega arith, omega arith))
    ]

-- a lower-case digit reads as a value, whose digit it is
reads_as : (c : ℕ) → IsLowerDigit c → (v : ℕ) × (v < 16) × (slice_index lower_digits v ≡ c)
    × (hex_digit_value c ≡ Some v)
reads_as c h =
    let v = value_of_digit c h in
    (v.0, v.1, v.2, rw v.2 at (IsDigits-lower_digits v.0 v.1))

-- ---- reading

-- pairs of lower-case digits are the hex of what they decode to
decoded_lower : (i : ℕ) (text : List ℕ) → All IsLowerDigit text → length text % 2 ≡ 0
    → (bytes : List ℕ) × (decode_pairs i text ≡ Ok bytes) × (text ≡ encode_lower bytes)
unfolding decode_pairs encode_with
decoded_lower i [] h even = ([], refl, refl)
decoded_lower i (c ∷ []) h even = absurd (omega arith)
decoded_lower i (c ∷ e ∷ rest) h even =
    let high = reads_as c (h 0 0 (omega arith)) in
    let low = reads_as e (h 1 0 (omega arith)) in
    let more = decoded_lower (i + 2) rest (All-tail IsLowerDigit e rest (All-tail IsLowerDigit c (e ∷ rest) h))
    (omega arith) in
    let first : value_at c i ≡ Ok high.0 = ap (digit_or_error c i) high.3 in
    let second : value_at e (i + 1) ≡ Ok low.0 = ap (digit_or_error e (i + 1)) low.3 in
    let pair : pair_value c e i ≡ Ok (high.0 * 16 + low.0) = rw (first, second) refl in
    let above : (high.0 * 16 + low.0) / 16 ≡ high.0 = omega (arith, low.1) in
    let below : (high.0 * 16 + low.0) % 16 ≡ low.0 = omega (arith, low.1) in (
      (high.0 * 16 + low.0) ∷ more.0,
      decode_pairs-ok_pair i c e (high.0 * 16 + low.0) rest pair ∙ ap (cons_byte (high.0 * 16 + low.0)) more.1,
      rw (above, below, high.2, low.2) (ap (λ t. c ∷ e ∷ t) more.2),
    )

-- so it spells them
pub hex_spells : (text : List ℕ) → IsHex text → (bytes : List ℕ) × SpellsHex text bytes
hex_spells text h =
    let found = decoded_lower 0 text h.2 h.1 in
    let len = length-encode_with lower_digits found.0 in
    let same = ap length found.2 in
    (found.0, (omega (arith, len, same, h.0), found.2))

-- and what is decoded is what it spells
pub decoded_is_spelled : (text bytes : List ℕ) → IsHex text → decode_of text ≡ Ok bytes → SpellsHex text bytes
decoded_is_spelled text bytes h decoded =
    let found = decoded_lower 0 text h.2 h.1 in
    let len = length-encode_with lower_digits found.0 in
    let size = ap length found.2 in
    let both = sym (decode_of-even text h.1 ∙ found.1) ∙ decoded in
    let same : found.0 ≡ bytes = cc in
    rw (← same) (omega (arith, len, size, h.0), found.2)

-- ---- writing

-- the hex of bytes is made of lower-case digits
lower-encode_lower : (bytes : List ℕ) → IsBytes bytes → All IsLowerDigit (encode_lower bytes)
unfolding encode_with
lower-encode_lower [] h = All-nil IsLowerDigit
lower-encode_lower (b ∷ rest) h =
    let fits : b < 256 = h 0 in
    All-cons IsLowerDigit (slice_index lower_digits (b / 16)) (slice_index lower_digits (b % 16) ∷ encode_lower rest)
    (digit_of_value (b / 16) (omega arith))
    (All-cons IsLowerDigit (slice_index lower_digits (b % 16)) (encode_lower rest)
    (digit_of_value (b % 16) (omega arith)) (lower-encode_lower rest (λ k. h (suc k))))

-- what spells bytes is lower-case hex
pub spelled_is_hex : (text bytes : List ℕ) → IsBytes bytes → SpellsHex text bytes → IsHex text
spelled_is_hex text bytes h spells =
    let len = length-encode_with lower_digits bytes in
    rw spells.1 (omega (arith, len, spells.0), omega (arith, len), lower-encode_lower bytes h)

encode_lower-append : (xs ys : List ℕ) → encode_lower (xs ++ ys) ≡ encode_lower xs ++ encode_lower ys
unfolding encode_with
encode_lower-append [] ys = refl
encode_lower-append (x ∷ xs) ys = rw (encode_lower-append xs ys) refl

-- a part more
pub encode_lower-part : (bytes : List ℕ) (i j : ℕ) → i ≤ j
    → encode_lower (take j bytes) ≡ encode_lower (take i bytes) ++ encode_lower (take (j - i) (drop i bytes))
encode_lower-part bytes i j h =
    let whole : i + (j - i) ≡ j = omega arith in
    let parts : take j bytes ≡ take i bytes ++ take (j - i) (drop i bytes) =
    ap (λ n. take n bytes) (sym whole) ∙ take-add i (j - i) bytes in
    ap encode_lower parts ∙ encode_lower-append (take i bytes) (take (j - i) (drop i bytes))

-- and all that is left
pub encode_lower-rest : (bytes : List ℕ) (i : ℕ) → i ≤ length bytes
    → encode_lower bytes ≡ encode_lower (take i bytes) ++ encode_lower (take (length bytes - i) (drop i bytes))
encode_lower-rest bytes i h = ap encode_lower (sym
    (take_all (length bytes) bytes (omega arith))) ∙ encode_lower-part bytes i (length bytes) h

pub encode_lower-nil : encode_lower [] ≡ []
unfolding encode_with
encode_lower-nil = refl

-- ---- reading, byte by byte

pair_spelled : (v w : ℕ) → v < 16 → w < 16 → encode_lower ((16 * v + w) ∷ [])
    ≡ slice_index lower_digits v ∷ slice_index lower_digits w ∷ []
unfolding encode_with
pair_spelled v w high low =
    let above : (16 * v + w) / 16 ≡ v = omega (arith, low) in
    let below : (16 * v + w) % 16 ≡ w = omega (arith, low) in
    rw (above, below) refl

first_two : (text : List ℕ) (i : ℕ) → i + 1 < length text
    → take 2 (drop i text) ≡ slice_index text i ∷ slice_index text (i + 1) ∷ []
first_two [] i h = absurd (omega arith)
first_two (c ∷ []) i h = absurd (omega arith)
first_two (c ∷ e ∷ rest) zero h = refl
first_two (c ∷ e ∷ rest) (suc i) h =
    let next : suc i + 1 ≡ suc (i + 1) = omega arith in
    rw next (first_two (e ∷ rest) i (omega arith))

-- one byte more is read
pub one_more_read : (text bytes : List ℕ) (i v w : ℕ) → i < length bytes → length text ≡ 2 * length bytes → v < 16
    → w < 16
    → slice_index lower_digits v ≡ slice_index text (2 * i) → slice_index lower_digits w ≡ slice_index text (2 * i + 1)
    → encode_lower (take i bytes) ≡ take (2 * i) text
    → encode_lower (take (i + 1) (set bytes i (16 * v + w))) ≡ take (2 * (i + 1)) text
one_more_read text bytes i v w below size high low first second before =
    let byte = 16 * v + w in
    let next : i + 1 ≡ suc i = omega arith in
    let put : take (suc i) (set bytes i byte) ≡ take i bytes ++ (byte ∷ []) = take-suc-set bytes i byte below in
    let joined : encode_lower (take i bytes ++ (byte ∷ [])) ≡ encode_lower (take i bytes) ++ encode_lower (byte ∷ []) =
    encode_lower-append (take i bytes) (byte ∷ []) in
    let pair = pair_spelled v w high low in
    let two : 2 * suc i ≡ 2 * i + 2 = omega arith in
    let taken : take (2 * i + 2) text ≡ take (2 * i) text ++ take 2 (drop (2 * i) text) = take-add (2 * i) 2 text in
    let both : take 2 (drop (2 * i) text) ≡ slice_index text (2 * i) ∷ slice_index text (2 * i + 1) ∷ [] =
    first_two text (2 * i) (omega (arith, size)) in
    rw (next, put, joined, before, pair, first, second, two, taken, both) refl
