use Rattle.std.proofs.Common.{◌≡◌, ◌∷◌}
use Rattle.fuse_replies.specs.Record.{record_content}
use Rattle.fuse_replies.specs.Records.{records_in}
use Rattle.frame_words.specs.Replies.{record_words}
use Rattle.fuse_text.proofs.Writes.{Left, none_done, one_more, all_done}
use Rattle.frame_words.proofs.replies.write_records.Goals as goal

pub loop-listed-init : goal.loop-listed-init
loop-listed-init g c = rw c.into_iter-listed-iterator.ensures.into_iter_gives
    (tt, tt, none_done record_words (g.W.Write.contents c.args.out.now) (records_in c.args.records))

pub loop-listed-preserved : goal.loop-listed-preserved
loop-listed-preserved g c =
    let now = g.W.Write.contents in
    let first = record_content c.in-Some.listed in
    let rest = records_in c.next.new.self in
    let k : records_in c.loop-listed.listed-iterator ≡ first ∷ rest = c.in-Some.ensures.steps in
    let before : Left record_words (now c.args.out.now) (now c.loop-listed.out) (records_in c.args.records) (first ∷ rest) =
    rw k at c.loop-listed.invariant.2 in (
      tt,
      tt,
      one_more record_words (now c.args.out.now) (now c.loop-listed.out) (now c.write_record.new.out) (records_in c.args.records) rest first before
          (c.in_ok-write_record.ensures),
    )

pub returns : goal.returns
returns g c =
    let now = g.W.Write.contents in
    all_done record_words (now c.args.out.now) (now c.loop-listed.out) (records_in c.args.records)
    (rw (c.in-None.ensures.steps.0) at c.loop-listed.invariant.2)
