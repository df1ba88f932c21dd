use Rattle.std.proofs.Common.{rules}
use Rattle.fs_tree.proofs.Keeping.{kept-named}
use Rattle.fs_tree.proofs.KeepsShape.{linked}
use Rattle.fs_tree.proofs.tree.Tree.link.Goals as goal

pub invariant_of-self-2 : goal.invariant_of-self-2
invariant_of-self-2 g c =
    let cookies = rw (← c.self.view_is) at c.requires.cookies in
    rw c.in_ok-add.ensures.ok (
      kept-named _ _ _ _ c.self.invariant.0 _ (search rules)
          (rw (← c.self.view_is) at c.in_ok-may_link.ensures.room) cookies,
      linked _ c.self.invariant.1 c.args.file c.args.directory c.args.name.now
          (rw (← c.self.view_is) at c.in_ok-may_link.ensures.refusal),
    )
