-- Where the records of a listing begin and end. A record has 24 bytes, a name, and padding to a multiple of 8; those of
-- READDIRPLUS have an entry of 128 bytes in front. What is left at the end and is no whole record is passed over.
use Rattle.std.specs.Prelude.{ℕ, zero, suc, ◌+◌, ◌-◌, ◌%◌, nat_le, Bool, true, false, ◌&&◌, if◌then◌else◌, List, [], ◌∷◌, length}
use Rattle.fk_fields.specs.Fields.{number_at}

-- the length of a name with its padding
abbrev pub padded : ℕ → ℕ
padded len = len + (8 - len % 8) % 8

-- how many bytes of an entry come before a record
abbrev pub front : (plus : Bool) → ℕ
front true = 128
front false = 0

-- where the record that begins at a place ends: its `namelen` stands 16 bytes into it
abbrev pub record_end : (plus : Bool) → ℕ → List ℕ → ℕ
record_end plus place bytes = place + (front plus + 24 + padded (number_at (place + (front plus + 16)) 4 bytes))

-- whether the whole record is in the bytes
abbrev pub is_whole : (plus : Bool) → ℕ → List ℕ → Bool
is_whole plus place bytes = nat_le (place + (front plus + 24)) (length bytes)
    && nat_le (record_end plus place bytes) (length bytes)

-- the places at which whole records begin, one behind the other from a place on, of so many at most
unfoldable pub places_from : (plus : Bool) (most place : ℕ) → List ℕ → List ℕ
places_from plus zero place bytes = []
places_from plus (suc most) place bytes = if is_whole plus place bytes
    then place ∷ places_from plus most (record_end plus place bytes) bytes else []

-- all of them
unfoldable pub record_places : (plus : Bool) (place : ℕ) → List ℕ → List ℕ
record_places plus place bytes = places_from plus (length bytes - place) place bytes
