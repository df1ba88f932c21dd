use Rattle.std.proofs.Common.{subst, take_all}
use Rattle.std.specs.Prelude.{◌↔◌, All, IsTrue}
use Rattle.fuse_text.specs.HexTexts.{IsLowerDigit}
use Rattle.fuse_text.proofs.Digits.{one_more_tested}
use Rattle.fuse_text.proofs.hex_text.is_lower_hex.Goals as goal

pub loop-byte-preserved : goal.loop-byte-preserved
loop-byte-preserved c =
    one_more_tested IsLowerDigit c.args.text.now c.loop-byte.byte-index c.loop-byte.is_hex c.is_lower_digit-is_hex.result c.loop-byte-test.true
    c.loop-byte.invariant c.is_lower_digit-is_hex.ensures

pub returns : goal.returns
returns c =
    subst (λ tested. IsTrue c.loop-byte.is_hex ↔ All IsLowerDigit tested)
    (take_all c.loop-byte.byte-index c.args.text.now c.loop-byte-test.false)
    c.loop-byte.invariant
