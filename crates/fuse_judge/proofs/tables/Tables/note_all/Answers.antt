use Rattle.fuse_judge.proofs.PendingLaws.{pending_waiting}
use Rattle.fuse_judge.proofs.tables.Tables.note_all.Goals as goal

pub returns-clause-right : goal.returns-clause-right
returns-clause-right g c = λ s are. record {
  right_flags = c.note_flags.ensures s are.right_flags
      (c.shows_end-shows.ensures s (pending_waiting s _ _ _ are.right_pending) are.right_flags);
  right_numbers = c.note_number.ensures.kept s are.right_numbers;
  right_nodes = c.note_nodes.ensures.kept s are.right_nodes;
  right_pending = c.note_pending.ensures.kept s are.right_pending;
  right_opens = c.note_opens.ensures.kept s are.right_opens;
}
