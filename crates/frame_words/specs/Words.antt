-- Numbers, names and bytes in words, each after a space.
use Rattle.std.specs.Prelude.{ℕ, List, [], ◌∷◌, ◌++◌, ◌&&◌, Option, Some, None, codes, decimal, if◌then◌else◌, length, map, nat_le, take}
use Rattle.hex.specs.Hex.{encode_lower}
use Rattle.fuse_text.specs.HexTexts.{hex_or_none}
use Rattle.fuse_text.specs.Printed.{printed_byte}

-- ` WORD NUMBER`
unfoldable pub number_words : (word : List ℕ) → ℕ → List ℕ
number_words word number = codes " " ++ word ++ codes " " ++ decimal number

-- the same, where there is a number
unfoldable pub number_words_if : (word : List ℕ) → Option ℕ → List ℕ
number_words_if word None = []
number_words_if word (Some number) = number_words word number

-- ` WORD NAME`
unfoldable pub name_words : (word name : List ℕ) → List ℕ
name_words word name = codes " " ++ word ++ codes " " ++ map printed_byte name

-- how many bytes of data are printed
abbrev pub most_printed : ℕ
most_printed = 32

-- ` data HEX`: the first bytes, and `..` where there are more
unfoldable pub data_words : List ℕ → List ℕ
data_words bytes = codes " data " ++ (if nat_le (length bytes) most_printed then hex_or_none bytes
    else encode_lower (take most_printed bytes) ++ codes "..")
