use Rattle.std.proofs.Common.{◌≡◌, ◌≤◌, ◌+◌, length}
use Rattle.fuse_spec.specs.Kernel.Replies.{each_forgotten}
use Rattle.fk_nodes.specs.LookedUp.{stale_by}
use Rattle.fk_nodes.specs.ListedFiles.{pairs_left_in, HaveNameRoom, names_judged}
use Rattle.fk_nodes.proofs.listed.take_listed.Given as goal

abbrev pub invariant-loop-pair : goal.invariant-loop-pair
invariant-loop-pair g l = record {
  bound : names_judged l.clock l.directory l.nodes l.names.names (pairs_left_in l.pair-iterator)
      ≡ names_judged l.clock l.directory l.nodes l.fn.names.names (pairs_left_in l.fn.pairs);
  room : HaveNameRoom l.names l.directory (pairs_left_in l.pair-iterator);
  state : each_forgotten (g.Q.QueueTable.state l.queues) (stale_by l.nodes (pairs_left_in l.pair-iterator))
      ≡ each_forgotten (g.Q.QueueTable.state l.fn.queues) (stale_by l.nodes (pairs_left_in l.fn.pairs));
  requests : (g.Q.QueueTable.room l.fn.queues).requests ≤ (g.Q.QueueTable.room l.queues).requests;
  forgets : (g.Q.QueueTable.room l.fn.queues).forgets + length (pairs_left_in l.pair-iterator) ≤
      (g.Q.QueueTable.room l.queues).forgets + length (pairs_left_in l.fn.pairs);
  few : length (pairs_left_in l.pair-iterator) ≤ (g.Q.QueueTable.room l.queues).forgets;
}
