use Rattle.std.proofs.Common.{not, nat_eq, cond, count_by}
use Rattle.fs_tree.proofs.Keeping.{kept-less}
use Rattle.fs_tree.proofs.Shaping.{without_files}
use Rattle.fs_tree.proofs.tree.Tree.discard_nameless.Goals as goal

pub invariant_of-self : goal.invariant_of-self
invariant_of-self g c = rw (c.retain_named.ensures, c.forget_empty.ensures) (
  kept-less _ _ _ _ c.self.invariant.0 (λ e. not (nat_eq
      (cond (nat_eq e.0 0) 1 (count_by (λ n. nat_eq n.file e.0) c.self.inside.names)) 0)),
  without_files _ c.self.invariant.1,
)
