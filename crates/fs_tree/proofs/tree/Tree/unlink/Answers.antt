use Rattle.std.proofs.Common.{not}
use Rattle.fuse_spec.specs.Files.Trees.{is_at}
use Rattle.fs_tree.proofs.Keeping.{kept-where}
use Rattle.fs_tree.proofs.KeepsShape.{unlinked}
use Rattle.fs_tree.proofs.tree.Tree.unlink.Goals as goal

pub invariant_of-self : goal.invariant_of-self
invariant_of-self g c = rw c.remove.ensures (
  kept-where _ _ _ _ c.self.invariant.0
      (λ n. not (is_at c.args.directory c.args.name.now n)),
  unlinked _ c.self.invariant.1 c.args.directory c.args.name.now (rw (← c.self.view_is) at c.in_ok-may_unlink.ensures),
)
