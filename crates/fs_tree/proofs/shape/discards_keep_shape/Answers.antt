use Rattle.fs_tree.proofs.Shaping.{without_file, without_files}
use Rattle.fs_tree.proofs.shape.discards_keep_shape.Goals as goal

pub returns-clause-one : goal.returns-clause-one
returns-clause-one g = λ tree shaped file. without_file tree shaped file

pub returns-clause-all : goal.returns-clause-all
returns-clause-all g = λ tree shaped. without_files tree shaped
