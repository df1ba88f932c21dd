-- Texts between quotes, as JSON has them.
use Rattle.std.specs.Prelude.{ℕ, Bool, List, [], ◌∷◌, ◌++◌, ◌+◌, ◌/◌, ◌%◌, ◌==◌, ◌&&◌, not, nat_le, nat_lt, codes, flat_map, if◌then◌else◌}

-- a lower-case hex digit
abbrev pub hex_digit : ℕ → ℕ
hex_digit value = if nat_lt value 10 then 48 + value else 87 + value

-- a byte that stands for itself: from 32 to 126, but no quote and no backslash
abbrev pub is_plain : ℕ → Bool
is_plain byte = nat_le 32 byte && nat_le byte 126 && not (byte == 34) && not (byte == 92)

-- a byte, or its number as `\u00XX`
abbrev pub string_byte : ℕ → List ℕ
string_byte byte =
    if is_plain byte then byte ∷ [] else codes "\\u00" ++ hex_digit (byte / 16) ∷ hex_digit (byte % 16) ∷ []

abbrev pub string : List ℕ → List ℕ
string text = codes "\"" ++ flat_map string_byte text ++ codes "\""
