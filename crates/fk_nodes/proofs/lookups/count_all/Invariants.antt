use Rattle.std.proofs.Common.{◌≡◌, length}
use Rattle.fk_nodes.specs.LookedUp.{looked_up_from}
use Rattle.fk_nodes.specs.Rooms.{HaveNodeRoom}
use Rattle.fk_nodes.specs.ListedFiles.{pairs_left_in}
use Rattle.fk_nodes.proofs.lookups.count_all.Given as goal

abbrev pub invariant-loop-pair : goal.invariant-loop-pair
invariant-loop-pair g l = record {
  counted : looked_up_from (g.C.CountTable.counted l.table) (pairs_left_in l.pair-iterator)
      ≡ looked_up_from (g.C.CountTable.counted l.fn.table) (pairs_left_in l.fn.pairs);
  room : HaveNodeRoom (g.C.CountTable.has_room l.table) (pairs_left_in l.pair-iterator);
  len : l.len ≡ length (g.C.CountTable.counted l.table);
}
