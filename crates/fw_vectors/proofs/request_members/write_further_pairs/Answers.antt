use Rattle.std.proofs.Common.{◌≡◌, ◌∷◌, ℕ}
use Rattle.fk_wire.specs.Pairs.{pairs_in}
use Rattle.fw_vectors.specs.Members.{further, pair_object}
use Rattle.fuse_text.proofs.Writes.{Left, none_done, one_more, all_done}
use Rattle.fw_vectors.proofs.request_members.write_further_pairs.Goals as goal

pub loop-nodeid-init : goal.loop-nodeid-init
loop-nodeid-init g c = rw c.into_iter-nodeid-iterator.ensures.into_iter_gives
    (tt, tt, none_done (further pair_object) (g.W.Write.contents c.args.out.now) (pairs_in c.args.pairs))

pub loop-nodeid-preserved : goal.loop-nodeid-preserved
loop-nodeid-preserved g c =
    let now = g.W.Write.contents in
    let first : ℕ × ℕ = (c.in-Some.nodeid, c.in-Some.nlookup) in
    let rest = pairs_in c.next.new.self in
    let k : pairs_in c.loop-nodeid.nodeid-iterator ≡ first ∷ rest = c.in-Some.ensures.steps in
    let before : Left (further pair_object) (now c.args.out.now) (now c.loop-nodeid.out) (pairs_in c.args.pairs) (first ∷ rest) =
    rw k at c.loop-nodeid.invariant.2 in (
      tt,
      tt,
      one_more (further pair_object) (now c.args.out.now) (now c.loop-nodeid.out) (now c.write_further_pair.new.out) (pairs_in c.args.pairs) rest first before
          (c.in_ok-write_further_pair.ensures),
    )

pub returns : goal.returns
returns g c =
    let now = g.W.Write.contents in
    all_done (further pair_object) (now c.args.out.now) (now c.loop-nodeid.out) (pairs_in c.args.pairs)
    (rw (c.in-None.ensures.steps.0) at c.loop-nodeid.invariant.2)
