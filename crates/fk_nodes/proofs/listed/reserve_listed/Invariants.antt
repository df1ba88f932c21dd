use Rattle.std.proofs.Common.{◌≡◌}
use Rattle.fk_nodes.specs.ListedFiles.{pairs_left_in}
use Rattle.fk_nodes.proofs.Rooms.{RoomBehind}
use Rattle.fk_nodes.proofs.listed.reserve_listed.Given as goal

abbrev pub invariant-loop-pair : goal.invariant-loop-pair
invariant-loop-pair g l = record {
  names : l.names.names ≡ l.fn.names.names;
  room : RoomBehind l.names l.directory (pairs_left_in l.fn.pairs) (pairs_left_in l.pair-iterator);
}
