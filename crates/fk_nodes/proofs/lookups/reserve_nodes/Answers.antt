use Rattle.std.proofs.Common.{ap, map, ◌∙◌}
use Rattle.fuse_frames.specs.ReplyTies.{pair_in}
use Rattle.fk_wire.specs.Records.{direntplus_content}
use Rattle.fk_nodes.specs.ListedFiles.{pairs_left_in}
use Rattle.fk_nodes.proofs.NodeRooms.{room_made}
use Rattle.fk_nodes.proofs.lookups.reserve_nodes.Goals as goal

pub loop-pair-preserved : goal.loop-pair-preserved
loop-pair-preserved g c =
    let left = ap (map pair_in) c.in-Some.ensures.steps in
    record {
      counted = c.reserve_node.ensures.counted ∙ c.loop-pair.invariant.counted;
      room = room_made (g.C.CountTable.has_room c.loop-pair.table) (g.C.CountTable.has_room c.reserve_node.new.table)
          (pairs_left_in c.args.pairs) (pairs_left_in c.loop-pair.pair-iterator) (pairs_left_in c.next.new.self)
          (pair_in (direntplus_content c.in-Some.pair)) c.loop-pair.invariant.room left c.reserve_node.ensures.kept c.in_ok-reserve_node.ensures.room;
    }
