use Rattle.std.proofs.Common.{refl}
use Rattle.fs_tree.proofs.names.Names.new.Goals as goal

pub invariant_of-result : goal.invariant_of-result
invariant_of-result g c = ((λ dir. rw (c.new.ensures, c.new-2.ensures.empty) refl), rw c.new.ensures tt)
