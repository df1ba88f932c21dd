use Rattle.std.proofs.Common.{sym, refl, arith}
use Rattle.fs_nodes.proofs.Sound.{sound_counted, sound_gone}
use Rattle.fs_nodes.proofs.nodes_of.NodesOfNodeStore.take_back.Goals as goal

pub invariant_of-self : goal.invariant_of-self
invariant_of-self g c = record {
  limit = c.self.invariant.limit;
  sound = sound_counted _ c.args.id _ _ c.self.invariant.sound (sym c.in-Some.ensures) refl refl
      (omega arith) c.write.ensures.rows;
}

pub invariant_of-self-else-count-node : goal.invariant_of-self-else-count-node
invariant_of-self-else-count-node g c = record {
  limit = c.self.invariant.limit;
  sound = sound_gone _ c.args.id c.self.invariant.sound c.take_out.ensures.rows;
}
