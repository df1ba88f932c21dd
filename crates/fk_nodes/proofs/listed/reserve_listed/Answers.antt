use Rattle.std.proofs.Common.{ap, map, ◌∙◌}
use Rattle.fuse_frames.specs.ReplyTies.{pair_in}
use Rattle.fk_wire.specs.Records.{direntplus_content}
use Rattle.fk_nodes.specs.ListedFiles.{pairs_left_in}
use Rattle.fk_nodes.proofs.Rooms.{room_made}
use Rattle.fk_nodes.proofs.listed.reserve_listed.Goals as goal

pub loop-pair-preserved : goal.loop-pair-preserved
loop-pair-preserved g c =
    let left = ap (map pair_in) c.in-Some.ensures.steps in
    record {
      names = c.reserve_name.ensures.names ∙ c.loop-pair.invariant.names;
      room = room_made c.loop-pair.names c.reserve_name.new.names c.args.directory (pairs_left_in c.args.pairs)
          (pairs_left_in c.loop-pair.pair-iterator) (pairs_left_in c.next.new.self)
          (pair_in (direntplus_content c.in-Some.pair)) c.loop-pair.invariant.room left c.reserve_name.ensures.kept c.in_ok-reserve_name.ensures.room;
    }
