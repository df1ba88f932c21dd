use Rattle.fuse_judge.proofs.tables.Tables.reserve.Goals as goal

pub returns-clause-kept : goal.returns-clause-kept
returns-clause-kept g c = λ s are. rw (c.reserve.ensures.entries, c.reserve-2.ensures.entries) record {
  right_flags = are.right_flags;
  right_numbers = are.right_numbers;
  right_nodes = are.right_nodes;
  right_pending = c.reserve_pending.ensures.kept s are.right_pending;
  right_opens = c.reserve_opens.ensures.kept s are.right_opens;
}
