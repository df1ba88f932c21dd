use Rattle.std.proofs.Common.{sym, refl, arith}
use Rattle.fs_nodes.proofs.Sound.{sound_counted, sound_given}
use Rattle.fs_nodes.proofs.nodes_of.NodesOfNodeStore.give.Goals as goal

pub invariant_of-self : goal.invariant_of-self
invariant_of-self g c = record {
  limit = c.self.invariant.limit;
  sound = sound_counted _ c.in-Some.id _ _ c.self.invariant.sound (sym c.in-Some-node.ensures) refl refl
      (omega arith) c.write.ensures.rows;
}

pub invariant_of-self-2 : goal.invariant_of-self-2
invariant_of-self-2 g c =
    let left = (rw (← c.self.view_is) at c.requires.generation) c.in_default.ensures.none in
    record {
      limit = omega arith;
      sound = sound_given _ c.add-id.result _ c.self.invariant.sound c.add-id.ensures.low c.in_default.ensures.none refl (omega arith) c.add-id.ensures.rows;
    }

pub overflow_add-count : goal.overflow_add-count
overflow_add-count g c =
    let fits = rw (← c.self.view_is) at c.requires.count in
    let low = fits c.in-Some.id _ (sym c.in-Some-node.ensures)
    (rw (← c.in-Some-node.ensures) at c.in-Some.ensures.some) in
    omega (arith, low)
