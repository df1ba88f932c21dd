use Rattle.std.proofs.Common.{List, ap, map, subst, sym, ◌∙◌}
use Rattle.fuse_frames.specs.ReplyTies.{pair_in}
use Rattle.fuse_spec.specs.Values.Maps.{Map}
use Rattle.fuse_spec.specs.Files.Operations.{DirentPlus}
use Rattle.fuse_spec.specs.declared.Counted.{Counted}
use Rattle.fuse_spec.specs.declared.Entry.{Entry}
use Rattle.fk_nodes.specs.LookedUp.{looked_up_from, HaveCountsInRange}
use Rattle.fk_nodes.specs.Rooms.{HaveNodeRoom}
use Rattle.fk_nodes.specs.ListedFiles.{pairs_left_in}
use Rattle.fk_nodes.proofs.Counting.{below_before}
use Rattle.fk_nodes.proofs.NodeRooms.{kept_rooms}
use Rattle.fk_nodes.proofs.lookups.count_all.Goals as goal

pub count_pair-len-requires-clause-below : goal.count_pair-len-requires-clause-below
count_pair-len-requires-clause-below g c =
    below_before (g.C.CountTable.counted c.loop-pair.table) (pairs_left_in c.loop-pair.pair-iterator)
    (subst HaveCountsInRange (sym c.loop-pair.invariant.counted) c.requires.below)

pub loop-pair-preserved : goal.loop-pair-preserved
loop-pair-preserved g c =
    let left = ap (map pair_in) c.in-Some.ensures.steps in
    let rest = pairs_left_in c.next.new.self in
    let rooms = subst (HaveNodeRoom (g.C.CountTable.has_room c.loop-pair.table)) left c.loop-pair.invariant.room in
    record {
      counted =
          ap (λ (m : Map Counted). looked_up_from m rest) c.count_pair-len.ensures.counted
          ∙ sym (ap (λ (ps : List (DirentPlus Entry)). looked_up_from (g.C.CountTable.counted c.loop-pair.table) ps) left)
          ∙ c.loop-pair.invariant.counted;
      room = kept_rooms (g.C.CountTable.has_room c.loop-pair.table)
          (g.C.CountTable.has_room c.count_pair-len.new.table) rest c.count_pair-len.ensures.kept rooms.1;
      len = c.count_pair-len.ensures.len;
    }
