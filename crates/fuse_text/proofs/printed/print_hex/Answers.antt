use Rattle.std.proofs.Common.{◌+◌, ◌-◌, arith, length, take, drop}
use Rattle.hex.specs.Hex.{encode_lower}
use Rattle.fuse_text.proofs.Hexes.{encode_lower-nil, encode_lower-part, encode_lower-rest}
use Rattle.std.proofs.KnownBytes.{Appends-nil, Appends-trans}
use Rattle.fuse_text.proofs.Writes.{OnOk-map}
use Rattle.fuse_text.proofs.printed.print_hex.Goals as goal

pub loop-written-init : goal.loop-written-init
loop-written-init g c = record {
  within = omega arith;
  wrote = rw encode_lower-nil (Appends-nil (g.W.Write.contents c.args.out.now));
}

pub loop-written-preserved : goal.loop-written-preserved
loop-written-preserved g c =
    let bytes = c.args.bytes.now in
    let at = c.loop-written.written in
    record {
      within = omega arith;
      wrote =
          rw (encode_lower-part bytes at (at + 32) (omega arith))
          (Appends-trans (g.W.Write.contents c.args.out.now) (g.W.Write.contents c.loop-written.out)
          (g.W.Write.contents c.print_block.new.out)
          (encode_lower (take at bytes)) (encode_lower (take ((at + 32) - at)
          (drop at bytes))) c.loop-written.invariant.wrote c.in_ok-print_block.ensures);
    }

pub returns : goal.returns
returns g c =
    let bytes = c.args.bytes.now in
    let at = c.loop-written.written in
    OnOk-map _ _ c.print_block-2.result
    (λ wrote. rw (encode_lower-rest bytes at c.loop-written.invariant.within)
    (Appends-trans (g.W.Write.contents c.args.out.now) (g.W.Write.contents c.loop-written.out)
    (g.W.Write.contents c.print_block-2.new.out)
    (encode_lower (take at bytes)) (encode_lower (take (length bytes - at)
    (drop at bytes))) c.loop-written.invariant.wrote wrote))
    c.print_block-2.ensures
