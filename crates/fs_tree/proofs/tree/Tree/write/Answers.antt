use Rattle.fs_tree.proofs.Keeping.{kept-written, regular_kind}
use Rattle.fs_tree.proofs.Shaping.{with_bytes}
use Rattle.fs_tree.proofs.tree.Tree.write.Goals as goal

pub invariant_of-self-2 : goal.invariant_of-self-2
invariant_of-self-2 g c = rw c.in_ok-write.ensures.ok (
  kept-written _ _ _ _ c.self.invariant.0 c.args.file _
      (regular_kind _ (rw (← c.self.view_is) at c.requires)),
  with_bytes _ c.self.invariant.1 c.args.file _ (regular_kind _ (rw (← c.self.view_is) at c.requires)),
)
