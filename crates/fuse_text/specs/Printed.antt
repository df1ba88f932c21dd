-- Names as they are printed.
use Rattle.std.specs.Prelude.{ℕ, ◌&&◌, if◌then◌else◌, nat_le}

-- `?` stands for a byte of a name that is outside 33 to 126
abbrev pub printed_byte : ℕ → ℕ
printed_byte byte = if nat_le 33 byte && nat_le byte 126 then byte else 63
