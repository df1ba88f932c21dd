use Rattle.std.proofs.Common.{◌≡◌, ◌∷◌}
use Rattle.fk_wire.specs.Records.{direntplus_content, pluses_in}
use Rattle.fw_frames.specs.Words.{direntplus_words}
use Rattle.fuse_text.proofs.Writes.{Left, none_done, one_more, all_done}
use Rattle.fw_frames.proofs.reply_words.write_pluses.Goals as goal

pub loop-pair-init : goal.loop-pair-init
loop-pair-init g c = rw c.into_iter-pair-iterator.ensures.into_iter_gives
    (tt, tt, none_done direntplus_words (g.W.Write.contents c.args.out.now) (pluses_in c.args.records))

pub loop-pair-preserved : goal.loop-pair-preserved
loop-pair-preserved g c =
    let now = g.W.Write.contents in
    let first = direntplus_content c.in-Some.pair in
    let rest = pluses_in c.next.new.self in
    let k : pluses_in c.loop-pair.pair-iterator ≡ first ∷ rest = c.in-Some.ensures.steps in
    let before : Left direntplus_words (now c.args.out.now) (now c.loop-pair.out) (pluses_in c.args.records) (first ∷ rest) =
    rw k at c.loop-pair.invariant.2 in (
      tt,
      tt,
      one_more direntplus_words (now c.args.out.now) (now c.loop-pair.out) (now c.write_direntplus.new.out) (pluses_in c.args.records) rest first before
          (c.in_ok-write_direntplus.ensures),
    )

pub returns : goal.returns
returns g c =
    let now = g.W.Write.contents in
    all_done direntplus_words (now c.args.out.now) (now c.loop-pair.out) (pluses_in c.args.records)
    (rw (c.in-None.ensures.steps.0) at c.loop-pair.invariant.2)
