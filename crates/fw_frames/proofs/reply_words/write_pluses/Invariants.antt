use Rattle.fk_wire.specs.Records.{pluses_in}
use Rattle.fw_frames.specs.Words.{direntplus_words}
use Rattle.fuse_text.proofs.Writes.{Left}
use Rattle.fw_frames.proofs.reply_words.write_pluses.Given as goal

abbrev pub invariant-loop-pair : goal.invariant-loop-pair
invariant-loop-pair g l =
    (goal.iterator-loop-pair g).can_next l.pair-iterator
    × (goal.iterator-loop-pair g).is_finite l.pair-iterator
    × Left direntplus_words (g.W.Write.contents l.initial.out) (g.W.Write.contents l.out) (pluses_in l.fn.records) (pluses_in l.pair-iterator)
