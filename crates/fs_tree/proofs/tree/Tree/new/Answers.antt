use Rattle.std.proofs.Common.{rules}
use Rattle.fs_tree.proofs.Shaping.{root_shaped}
use Rattle.fs_tree.proofs.tree.Tree.new.Goals as goal

pub invariant_of-result : goal.invariant_of-result
invariant_of-result g c = (search rules, rw (c.in_ok-push.ensures.ok, c.new-files.ensures, c.new.ensures) root_shaped)
