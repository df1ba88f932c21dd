use Rattle.std.proofs.Common.{◌+◌, ◌-◌, ◌≤◌, arith, length, take, drop}
use Rattle.hex.specs.Hex.{encode_lower}
use Rattle.fuse_text.proofs.Hexes.{encode_lower-nil, encode_lower-part, encode_lower-rest}
use Rattle.std.proofs.KnownBytes.{Appends-nil, Appends-trans}
use Rattle.fuse_text.proofs.Writes.{OnErr-always, OnOk-map, refused_then, some_first, some_then}
use Rattle.fuse_text.proofs.hex_text.write_hex.Goals as goal

pub loop-written-init : goal.loop-written-init
loop-written-init g c = record {
  within = omega arith;
  wrote = rw encode_lower-nil (Appends-nil (g.W.Write.contents c.args.out.now));
}

pub loop-written-preserved : goal.loop-written-preserved
loop-written-preserved g c =
    let bytes = c.args.bytes.now in
    let at = c.loop-written.written in
    record {
      within = omega arith;
      wrote =
          rw (encode_lower-part bytes at (at + 32) (omega arith))
          (Appends-trans (g.W.Write.contents c.args.out.now) (g.W.Write.contents c.loop-written.out)
          (g.W.Write.contents c.write_block.new.out)
          (encode_lower (take at bytes)) (encode_lower (take ((at + 32) - at)
          (drop at bytes))) c.loop-written.invariant.wrote c.in_ok-write_block.ensures.ok);
    }

pub returns-in_err-write_block-clause-refused : goal.returns-in_err-write_block-clause-refused
returns-in_err-write_block-clause-refused g c =
    let bytes = c.args.bytes.now in
    let at = c.loop-written.written in
    let within : at + 32 ≤ length bytes = omega arith in
    let block = encode_lower (take ((at + 32) - at) (drop at bytes)) in
    OnErr-always _ c.from_residual.result
    (some_first (g.W.Write.contents c.args.out.now) (g.W.Write.contents c.write_block.new.out)
    (encode_lower (take (at + 32) bytes)) _ _ (encode_lower-rest bytes (at + 32) within)
    (some_then (g.W.Write.contents c.args.out.now) (g.W.Write.contents c.loop-written.out)
    (g.W.Write.contents c.write_block.new.out) (encode_lower (take at bytes)) block (encode_lower (take (at + 32) bytes))
    (encode_lower-part bytes at (at + 32) (omega arith)) c.loop-written.invariant.wrote
    c.in_err-write_block.ensures.refused))

pub returns-clause-ok : goal.returns-clause-ok
returns-clause-ok g c =
    let bytes = c.args.bytes.now in
    let at = c.loop-written.written in
    OnOk-map _ _ c.write_block-2.result
    (λ wrote. rw (encode_lower-rest bytes at c.loop-written.invariant.within)
    (Appends-trans (g.W.Write.contents c.args.out.now) (g.W.Write.contents c.loop-written.out)
    (g.W.Write.contents c.write_block-2.new.out)
    (encode_lower (take at bytes)) (encode_lower (take (length bytes - at)
    (drop at bytes))) c.loop-written.invariant.wrote wrote))
    c.write_block-2.ensures.ok

pub returns-clause-refused : goal.returns-clause-refused
returns-clause-refused g c =
    let bytes = c.args.bytes.now in
    let at = c.loop-written.written in
    refused_then c.write_block-2.result (g.W.Write.contents c.args.out.now) (g.W.Write.contents c.loop-written.out)
    (g.W.Write.contents c.write_block-2.new.out) (encode_lower (take at bytes))
    (encode_lower (take (length bytes - at) (drop at bytes))) (encode_lower bytes)
    (encode_lower-rest bytes at c.loop-written.invariant.within) c.loop-written.invariant.wrote
    c.write_block-2.ensures.refused
