use Rattle.fuse_replies.specs.Records.{records_in}
use Rattle.frame_words.specs.Replies.{record_words}
use Rattle.fuse_text.proofs.Writes.{Left}
use Rattle.frame_words.proofs.replies.write_records.Given as goal

abbrev pub invariant-loop-listed : goal.invariant-loop-listed
invariant-loop-listed g l =
    (goal.iterator-loop-listed g).can_next l.listed-iterator
    × (goal.iterator-loop-listed g).is_finite l.listed-iterator
    × Left record_words (g.W.Write.contents l.initial.out) (g.W.Write.contents l.out) (records_in l.fn.records) (records_in l.listed-iterator)
