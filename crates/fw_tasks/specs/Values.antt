-- The values of arguments, by the matches of a command.
use Rattle.std.specs.Prelude.{◌<◌, ◌≤◌, ◌⊎◌, All, length, ℕ, ◌^◌, ◌&&◌, Bool, false, List, [], unwrap_or, if◌then◌else◌, nat_lt, codes}
use Rattle.std.specs.Option.{option_map_or}
use Rattle.std.specs.Str.{bytes_eq}
use Rattle.std.specs.Str.Parse.{digits_value, without_leading_plus}
use Rattle.clap.specs.ValueTests.{is_numeral}
use Rattle.clap.specs.Words.{Row, Text, first_of, one_of}

-- the text of an argument that has to be given
abbrev pub text_of : Text → List Row → Text
text_of id rows = unwrap_or (first_of id rows) []

-- whether a flag is set
abbrev pub is_set : Text → List Row → Bool
is_set id rows = option_map_or (λ text. bytes_eq text (codes "true")) (one_of id rows) false

-- the number that a text is, or else another
abbrev pub number_or : ℕ → Text → ℕ
number_or other text =
    let digits = without_leading_plus text in
    if is_numeral digits && nat_lt (digits_value 10 digits) (2 ^ 64) then digits_value 10 digits else other

-- the number of an option
abbrev pub number_of : Text → ℕ → List Row → ℕ
number_of id other rows = option_map_or (number_or other) (one_of id rows) other

-- a lower-case hex digit
abbrev pub IsHexDigit : ℕ → Type 0
IsHexDigit byte = ((48 ≤ byte) × (byte ≤ 57)) ⊎ ((97 ≤ byte) × (byte ≤ 102))

-- what `--offer` takes: 1 to 8 lower-case hex digits
abbrev pub IsOffer : Text → Type 0
IsOffer text = (0 < length text) × (length text ≤ 8) × All IsHexDigit text
