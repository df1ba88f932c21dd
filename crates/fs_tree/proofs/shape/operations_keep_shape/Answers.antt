use Rattle.fs_tree.proofs.KeepsShape.{keeps}
use Rattle.fs_tree.proofs.shape.operations_keep_shape.Goals as goal

pub returns : goal.returns
returns c = λ tree shaped operation regular. keeps tree shaped operation regular
