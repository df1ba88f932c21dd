use Rattle.fs_tree.proofs.Shaping.{root_shaped}
use Rattle.fs_tree.proofs.shape.root_has_shape.Goals as goal

pub returns : goal.returns
returns c = root_shaped
