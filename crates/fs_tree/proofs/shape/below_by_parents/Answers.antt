use Rattle.fs_tree.proofs.Below.{below_exactly}
use Rattle.fs_tree.proofs.shape.below_by_parents.Goals as goal

pub returns : goal.returns
returns c = λ tree shaped top directory is. below_exactly tree top shaped directory is
