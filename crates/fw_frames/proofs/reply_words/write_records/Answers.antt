use Rattle.std.proofs.Common.{◌≡◌, ◌∷◌}
use Rattle.fk_wire.specs.Records.{dirent_content, records_in}
use Rattle.fw_frames.specs.Words.{dirent_words}
use Rattle.fuse_text.proofs.Writes.{Left, none_done, one_more, all_done}
use Rattle.fw_frames.proofs.reply_words.write_records.Goals as goal

pub loop-dirent-init : goal.loop-dirent-init
loop-dirent-init g c = rw c.into_iter-dirent-iterator.ensures.into_iter_gives
    (tt, tt, none_done dirent_words (g.W.Write.contents c.args.out.now) (records_in c.args.records))

pub loop-dirent-preserved : goal.loop-dirent-preserved
loop-dirent-preserved g c =
    let now = g.W.Write.contents in
    let first = dirent_content c.in-Some.dirent in
    let rest = records_in c.next.new.self in
    let k : records_in c.loop-dirent.dirent-iterator ≡ first ∷ rest = c.in-Some.ensures.steps in
    let before : Left dirent_words (now c.args.out.now) (now c.loop-dirent.out) (records_in c.args.records) (first ∷ rest) =
    rw k at c.loop-dirent.invariant.2 in (
      tt,
      tt,
      one_more dirent_words (now c.args.out.now) (now c.loop-dirent.out) (now c.write_dirent.new.out) (records_in c.args.records) rest first before
          (c.in_ok-write_dirent.ensures),
    )

pub returns : goal.returns
returns g c =
    let now = g.W.Write.contents in
    all_done dirent_words (now c.args.out.now) (now c.loop-dirent.out) (records_in c.args.records)
    (rw (c.in-None.ensures.steps.0) at c.loop-dirent.invariant.2)
