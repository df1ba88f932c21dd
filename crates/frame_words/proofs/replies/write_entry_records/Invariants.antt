use Rattle.fuse_replies.specs.Records.{entry_records_in}
use Rattle.frame_words.specs.Replies.{entry_record_words}
use Rattle.fuse_text.proofs.Writes.{Left}
use Rattle.frame_words.proofs.replies.write_entry_records.Given as goal

abbrev pub invariant-loop-pair : goal.invariant-loop-pair
invariant-loop-pair g l =
    (goal.iterator-loop-pair g).can_next l.pair-iterator
    × (goal.iterator-loop-pair g).is_finite l.pair-iterator
    × Left entry_record_words (g.W.Write.contents l.initial.out) (g.W.Write.contents l.out) (entry_records_in l.fn.records) (entry_records_in l.pair-iterator)
