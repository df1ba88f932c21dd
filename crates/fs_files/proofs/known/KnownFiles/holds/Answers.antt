use Rattle.fs_files.proofs.Counted.{or_first}
use Rattle.fs_files.proofs.known.KnownFiles.holds.Goals as goal

pub returns-then-has_node : goal.returns-then-has_node
returns-then-has_node g c = rw (← c.self.view_is)
    (or_first _ _ c.has-has_node.result c.if-has_node.true c.has-has_node.ensures.any)
