use Rattle.std.proofs.Common.{arith}
use Rattle.fuse_text.proofs.Hexes.{encode_lower-nil, one_more_read}
use Rattle.fuse_text.proofs.hex_text.decode.Goals as goal

pub loop-i-init : goal.loop-i-init
loop-i-init c = encode_lower-nil

pub loop-i-preserved : goal.loop-i-preserved
loop-i-preserved c =
    let high = c.digit_value in
    let low = c.digit_value-in-loop-i in
    one_more_read c.args.text.now c.loop-i.bytes c.loop-i.i high.result low.result (omega arith)
    (omega (arith, c.requires.pairs)) high.ensures.fits
    low.ensures.fits high.ensures.value low.ensures.value c.loop-i.invariant
