use Rattle.std.proofs.Common.{◌≡◌, ◌∷◌}
use Rattle.fuse_replies.specs.Record.{entry_record_content}
use Rattle.fuse_replies.specs.Records.{entry_records_in}
use Rattle.frame_words.specs.Replies.{entry_record_words}
use Rattle.fuse_text.proofs.Writes.{Left, none_done, one_more, all_done}
use Rattle.frame_words.proofs.replies.write_entry_records.Goals as goal

pub loop-pair-init : goal.loop-pair-init
loop-pair-init g c = rw c.into_iter-pair-iterator.ensures.into_iter_gives
    (tt, tt, none_done entry_record_words (g.W.Write.contents c.args.out.now) (entry_records_in c.args.records))

pub loop-pair-preserved : goal.loop-pair-preserved
loop-pair-preserved g c =
    let now = g.W.Write.contents in
    let first = entry_record_content c.in-Some.pair in
    let rest = entry_records_in c.next.new.self in
    let k : entry_records_in c.loop-pair.pair-iterator ≡ first ∷ rest = c.in-Some.ensures.steps in
    let before : Left entry_record_words (now c.args.out.now) (now c.loop-pair.out) (entry_records_in c.args.records) (first ∷ rest) =
    rw k at c.loop-pair.invariant.2 in (
      tt,
      tt,
      one_more entry_record_words (now c.args.out.now) (now c.loop-pair.out) (now c.write_entry_record.new.out) (entry_records_in c.args.records) rest first before
          (c.in_ok-write_entry_record.ensures),
    )

pub returns : goal.returns
returns g c =
    let now = g.W.Write.contents in
    all_done entry_record_words (now c.args.out.now) (now c.loop-pair.out) (entry_records_in c.args.records)
    (rw (c.in-None.ensures.steps.0) at c.loop-pair.invariant.2)
