use Rattle.std.proofs.Common.{arith, List, ap, map, subst, sym, ◌∙◌}
use Rattle.std.proofs.lemmas.Grind.{common_steps}
use Rattle.fuse_frames.specs.ReplyTies.{pair_in}
use Rattle.fuse_spec.specs.Values.Maps.{NameMap}
use Rattle.fuse_spec.specs.Files.Operations.{DirentPlus}
use Rattle.fuse_spec.specs.declared.Dentry.{Dentry}
use Rattle.fuse_spec.specs.declared.Entry.{Entry}
use Rattle.fk_nodes.specs.ListedFiles.{pairs_left_in, HaveNameRoom, names_judged}
use Rattle.fk_nodes.proofs.Rooms.{kept_rooms}
use Rattle.fk_nodes.proofs.listed.take_listed.Goals as goal

pub loop-pair-preserved : goal.loop-pair-preserved
loop-pair-preserved g c =
    let left = ap (map pair_in) c.in-Some.ensures.steps in
    let clock = c.args.clock in
    let directory = c.args.directory in
    let nodes = c.args.nodes.now in
    let rest = pairs_left_in c.next.new.self in
    let rooms = subst (HaveNameRoom c.loop-pair.names directory) left c.loop-pair.invariant.room in
    record {
      bound =
          ap (λ (n : NameMap Dentry). names_judged clock directory nodes n rest) c.take_name.ensures.names
          ∙ sym (ap (λ (ps : List (DirentPlus Entry)). names_judged clock directory nodes c.loop-pair.names.names ps) left)
          ∙ c.loop-pair.invariant.bound;
      room = kept_rooms c.loop-pair.names c.take_name.new.names directory rest c.take_name.ensures.kept rooms.1;
      state = grind (arith, common_steps);
      requests = grind (arith, common_steps);
      forgets = grind (arith, common_steps);
      few = grind (arith, common_steps);
    }
