use Rattle.fs_tree.proofs.ByDirectory.{AreByDirectory-same}
use Rattle.fs_tree.proofs.names.Names.forget.Goals as goal

pub invariant_of-self : goal.invariant_of-self
invariant_of-self g c = (AreByDirectory-same _ _ _ c.close.ensures c.self.invariant.0, c.self.invariant.1)
