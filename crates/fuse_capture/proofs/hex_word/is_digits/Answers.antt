use Rattle.std.proofs.Common.{subst, take_all, ◌≡◌, true}
use Rattle.std.specs.Prelude.{◌↔◌, IsTrue}
use Rattle.std.specs.List.{AllPass}
use Rattle.hex.specs.Hex.{is_hex_digit}
use Rattle.fuse_text.proofs.Digits.{one_more_tested}
use Rattle.fuse_capture.proofs.hex_word.is_digits.Goals as goal

pub loop-byte-preserved : goal.loop-byte-preserved
loop-byte-preserved c =
    let same = c.is_digit-is_hex.ensures in
    one_more_tested (λ k. is_hex_digit k ≡ true) c.args.word.now c.loop-byte.byte-index c.loop-byte.is_hex
    c.is_digit-is_hex.result c.loop-byte-test.true c.loop-byte.invariant (rw same (λ h. h, λ h. h))

pub returns : goal.returns
returns c =
    subst (λ tested. IsTrue c.loop-byte.is_hex ↔ AllPass is_hex_digit tested)
    (take_all c.loop-byte.byte-index c.args.word.now c.loop-byte-test.false)
    c.loop-byte.invariant
