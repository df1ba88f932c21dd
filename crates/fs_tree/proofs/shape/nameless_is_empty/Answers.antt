use Rattle.fs_tree.proofs.Shaping.{nameless_empty}
use Rattle.fs_tree.proofs.shape.nameless_is_empty.Goals as goal

pub returns : goal.returns
returns c = λ tree shaped file nameless. nameless_empty tree shaped file nameless
