-- Bytes as lower-case hex.
use Rattle.std.specs.Prelude.{◌≡◌, ◌<◌, ◌≤◌, ◌%◌, ◌⊎◌, ℕ, List, [], ◌∷◌, All, codes, length}
use Rattle.hex.specs.Hex.{encode_lower}

-- `0` to `9`, or `a` to `f`
abbrev pub IsLowerDigit : ℕ → Type 0
IsLowerDigit c = ((48 ≤ c) × (c ≤ 57)) ⊎ ((97 ≤ c) × (c ≤ 102))

-- one or more pairs of these
abbrev pub IsHex : List ℕ → Type 0
IsHex text = (0 < length text) × (length text % 2 ≡ 0) × All IsLowerDigit text

-- a text is these bytes, one or more, each as its two digits
abbrev pub SpellsHex : List ℕ → List ℕ → Type 0
SpellsHex text bytes = (0 < length bytes) × (text ≡ encode_lower bytes)

-- pairs of digits, or `-` for no bytes
abbrev pub IsHexOrNone : List ℕ → Type 0
IsHexOrNone text = (text ≡ codes "-") ⊎ IsHex text

-- bytes, each as its two digits, or `-` for none
abbrev pub hex_or_none : List ℕ → List ℕ
hex_or_none [] = codes "-"
hex_or_none (b ∷ rest) = encode_lower (b ∷ rest)
