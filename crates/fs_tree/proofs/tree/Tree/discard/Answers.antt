use Rattle.std.proofs.Common.{not, nat_eq, sym, ◌∙◌}
use Rattle.fs_tree.proofs.Keeping.{kept-less}
use Rattle.fs_tree.proofs.Shaping.{without_nameless_file}
use Rattle.fs_tree.proofs.tree.Tree.discard.Goals as goal

pub invariant_of-self : goal.invariant_of-self
invariant_of-self g c = rw (c.remove.ensures, c.forget.ensures) (
  kept-less _ _ _ _ c.self.invariant.0 (λ e. not (nat_eq e.0 c.args.file)),
  without_nameless_file _ c.self.invariant.1 c.args.file
      (rw (← c.self.view_is) at (sym c.is_nameless.ensures ∙ c.if-is_nameless.true)),
)
