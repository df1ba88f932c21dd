-- The bytes that hex spells.
use Rattle.std.proofs.Common.{◌≡◌, ℕ, List, [], ◌∷◌, refl, ap, sym, ◌∙◌}
use Rattle.fuse_text.specs.HexTexts.{hex_or_none}
use Rattle.hex.specs.Hex.{IsBytes}
use Rattle.hex.proofs.HexLemmas.{decode_of-encode_lower}
use Rattle.fw_orders.specs.Saying.{bytes_or_none, hex_bytes}

pub spells : (bytes : List ℕ) → IsBytes bytes → hex_bytes (hex_or_none bytes) ≡ bytes
spells [] fit = refl
spells (byte ∷ bytes) fit = ap bytes_or_none (decode_of-encode_lower (byte ∷ bytes) fit)

-- bytes that were read from hex
pub read_back : (hex bytes given : List ℕ) → IsBytes bytes → hex ≡ hex_or_none bytes → given ≡ bytes
    → given ≡ hex_bytes hex
read_back hex bytes given fit is same = same ∙ sym (spells bytes fit) ∙ ap hex_bytes (sym is)
