-- Words of hex digits.
use Rattle.std.proofs.Common.{◌≡◌, ◌*◌, ◌%◌, ℕ, true, false, List, ◌∷◌, length, Ok, arith, sym, ◌∙◌, inl, inr}
use Rattle.std.proofs.lemmas.Bool.{cases_eq}
use Rattle.std.proofs.lemmas.List.Elements.{All-head}
use Rattle.hex.specs.Hex.{decode_of, is_hex_digit}
use Rattle.hex.proofs.HexLemmas.{decode_of-even, decode_of-odd, decode_pairs-ok, decode_pairs-digits}
use Rattle.fuse_capture.specs.Lines.{IsHexWord}
use Rattle.fuse_capture.specs.Readings.{IsPairs}

-- what decodes has an even length
is_even : (hex bytes : List ℕ) → decode_of hex ≡ Ok bytes → length hex % 2 ≡ 0
is_even hex bytes is = elim (cases_eq (length hex % 2) 1) [
  | inl odd ↦ let bad = decode_of-odd hex odd in cc
  | inr other ↦ omega arith
]

-- what a word spells, which is half as long
pub hex_spells : (hex bytes : List ℕ) → IsHexWord hex bytes → (length hex ≡ 2 * length bytes) × IsPairs hex
hex_spells hex bytes is =
    let even = is_even hex bytes is.1 in
    let pairs = decode_pairs-ok 0 hex bytes (sym (decode_of-even hex even) ∙ is.1) in
    let size = pairs.1 in
    (size, (omega (arith, is.0, size), even, pairs.0))

-- pairs of digits spell bytes
pub pairs_spell : (hex : List ℕ) → IsPairs hex → (bytes : List ℕ) × IsHexWord hex bytes
pairs_spell hex pairs =
    let found = decode_pairs-digits 0 hex pairs.1 pairs.2 in
    let is = decode_of-even hex pairs.1 ∙ found.1 in
    let size = (decode_pairs-ok 0 hex found.0 found.1).1 in
    (found.0, (omega (arith, size, pairs.0), is))

-- the same ones
pub spelled_once : (hex a b : List ℕ) → IsHexWord hex a → IsHexWord hex b → a ≡ b
spelled_once hex a b first second = let both = sym first.1 ∙ second.1 in cc

-- no hex begins with a mark
pub no_marked_hex : (mark : ℕ) (rest bytes : List ℕ) → is_hex_digit mark ≡ false → IsHexWord (mark ∷ rest) bytes → ⊥
no_marked_hex mark rest bytes other is =
    let pairs = (hex_spells (mark ∷ rest) bytes is).1 in
    let yes = All-head (λ c. is_hex_digit c ≡ true) mark rest pairs.2 in
    cc
