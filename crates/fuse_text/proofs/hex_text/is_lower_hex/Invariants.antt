use Rattle.std.proofs.Common.{take}
use Rattle.std.specs.Prelude.{◌↔◌, All, IsTrue}
use Rattle.fuse_text.specs.HexTexts.{IsLowerDigit}
use Rattle.fuse_text.proofs.hex_text.is_lower_hex.Given as goal

abbrev pub invariant-loop-byte : goal.invariant-loop-byte
invariant-loop-byte l = IsTrue l.is_hex ↔ All IsLowerDigit (take l.byte-index l.text)
