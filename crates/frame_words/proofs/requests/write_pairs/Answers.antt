use Rattle.std.proofs.Common.{◌≡◌, ◌∷◌, ℕ}
use Rattle.fuse_protocol.specs.Pairs.{pairs_in}
use Rattle.frame_words.specs.Requests.{pair_words}
use Rattle.fuse_text.proofs.Writes.{Left, none_done, one_more, all_done}
use Rattle.frame_words.proofs.requests.write_pairs.Goals as goal

pub loop-one-init : goal.loop-one-init
loop-one-init g c = rw c.into_iter-one-iterator.ensures.into_iter_gives
    (tt, tt, none_done pair_words (g.W.Write.contents c.args.out.now) (pairs_in c.args.pairs))

pub loop-one-preserved : goal.loop-one-preserved
loop-one-preserved g c =
    let now = g.W.Write.contents in
    let first : ℕ × ℕ = (c.in-Some.one, c.in-Some.other) in
    let rest = pairs_in c.next.new.self in
    let k : pairs_in c.loop-one.one-iterator ≡ first ∷ rest = c.in-Some.ensures.steps in
    let before : Left pair_words (now c.args.out.now) (now c.loop-one.out) (pairs_in c.args.pairs) (first ∷ rest) =
    rw k at c.loop-one.invariant.2 in (
      tt,
      tt,
      one_more pair_words (now c.args.out.now) (now c.loop-one.out) (now c.write_pair.new.out) (pairs_in c.args.pairs) rest first before
          (c.in_ok-write_pair.ensures),
    )

pub returns : goal.returns
returns g c =
    let now = g.W.Write.contents in
    all_done pair_words (now c.args.out.now) (now c.loop-one.out) (pairs_in c.args.pairs)
    (rw (c.in-None.ensures.steps.0) at c.loop-one.invariant.2)
