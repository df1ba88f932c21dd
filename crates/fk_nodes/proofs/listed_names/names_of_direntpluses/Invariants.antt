use Rattle.std.proofs.Common.{◌≡◌, ◌++◌, map}
use Rattle.fuse_spec.specs.declared.Entry.{Entry}
use Rattle.fuse_spec.specs.Files.Operations.{DirentPlus}
use Rattle.fk_nodes.specs.ListedFiles.{pairs_left_in}
use Rattle.fk_nodes.proofs.listed_names.names_of_direntpluses.Given as goal

abbrev pub invariant-loop-pair : goal.invariant-loop-pair
invariant-loop-pair g l =
    l.names ++ map (λ (pair : DirentPlus Entry). pair.dirent) (pairs_left_in l.pair-iterator)
    ≡ map (λ (pair : DirentPlus Entry). pair.dirent) (pairs_left_in l.fn.pairs)
