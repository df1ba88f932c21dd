use Rattle.std.proofs.Common.{◌≡◌, ◌+◌, ◌-◌, length, refl, sym, ap, ◌∙◌, arith}
use Rattle.fs_serve.specs.Blocks.{with_blocks_from}
use Rattle.fs_serve.proofs.FilledReplies.{filled_up, fills_one}
use Rattle.fs_serve.proofs.blocks.fill_pairs.Goals as goal

pub returns-then-frame-place-clause-filled : goal.returns-then-frame-place-clause-filled
returns-then-frame-place-clause-filled c =
    let so_far = c.loop-pair.invariant.0 in
    sym (filled_up _ c.loop-pair.place c.loop-pair.frame (omega (arith, c.if-frame-place.true))) ∙ so_far

pub loop-pair-preserved : goal.loop-pair-preserved
loop-pair-preserved c =
    let (so_far, near, ends, long) = c.loop-pair.invariant in
    let most = length c.args.frame.now - c.loop-pair._pair in
    let less : most - 1 ≡ length c.args.frame.now - (c.loop-pair._pair + 1) = omega arith in
    let room = c.if-frame-place.false in
    let still = c.fill_at.ensures.long in
    let bound = c.pair_end-end.ensures.near in
    let one = fills_one most c.loop-pair.place c.loop-pair.frame (omega (arith, room)) (omega (arith, c.loop-pair-test.true)) in (
      ap (λ n. with_blocks_from n c.pair_end-end.result c.fill_at.new.frame) (sym less)
          ∙ ap (λ n. with_blocks_from (most - 1) n c.fill_at.new.frame) c.pair_end-end.ensures.end
          ∙ ap (with_blocks_from (most - 1) _) c.fill_at.ensures.filled ∙ sym one ∙ so_far,
      omega (arith, bound, room, still),
      refl,
      still ∙ long,
    )

pub returns-clause-filled : goal.returns-clause-filled
unfolding with_blocks_from
returns-clause-filled c =
    let (so_far, near, ends, long) = c.loop-pair.invariant in
    let none : length c.args.frame.now - c.loop-pair._pair ≡ 0 = omega (arith, c.loop-pair-test.false) in
    sym (ap (λ n. with_blocks_from n c.loop-pair.place c.loop-pair.frame) none) ∙ so_far
