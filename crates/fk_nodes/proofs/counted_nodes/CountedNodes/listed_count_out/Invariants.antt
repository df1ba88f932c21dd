use Rattle.std.proofs.Common.{All}
use Rattle.fuse_spec.specs.Files.Operations.{DirentPlus, listed_by}
use Rattle.fuse_spec.specs.declared.Entry.{Entry}
use Rattle.fk_nodes.specs.LookedUp.{LeavesBelow}
use Rattle.fk_nodes.specs.ListedFiles.{pairs_left_in}
use Rattle.fk_nodes.proofs.counted_nodes.CountedNodes.listed_count_out.Given as goal

abbrev pub invariant-loop-pair : goal.invariant-loop-pair
invariant-loop-pair g l =
    All (λ (pair : DirentPlus Entry). LeavesBelow l.self (pairs_left_in l.fn.pairs) (listed_by pair))
    (pairs_left_in l.pair-iterator)
    → All (λ (pair : DirentPlus Entry). LeavesBelow l.self (pairs_left_in l.fn.pairs) (listed_by pair)) (pairs_left_in l.fn.pairs)
