use Rattle.std.proofs.Common.{◌≡◌}
use Rattle.fk_nodes.specs.ListedFiles.{pairs_left_in}
use Rattle.fk_nodes.proofs.NodeRooms.{RoomBehind}
use Rattle.fk_nodes.proofs.lookups.reserve_nodes.Given as goal

abbrev pub invariant-loop-pair : goal.invariant-loop-pair
invariant-loop-pair g l = record {
  counted : g.C.CountTable.counted l.table ≡ g.C.CountTable.counted l.fn.table;
  room : RoomBehind (g.C.CountTable.has_room l.table) (pairs_left_in l.fn.pairs) (pairs_left_in l.pair-iterator);
}
