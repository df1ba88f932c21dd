use Rattle.std.proofs.Common.{◌≡◌, nat_lt}
use Rattle.fk_nodes.specs.LookedUp.{times_listed}
use Rattle.fk_nodes.specs.ListedFiles.{pairs_left_in}
use Rattle.fk_nodes.proofs.lookups.lists_more_than.Given as goal

abbrev pub invariant-loop-pair : goal.invariant-loop-pair
invariant-loop-pair l = nat_lt l.left (times_listed l.id l.generation (pairs_left_in l.pair-iterator))
    ≡ nat_lt l.limit (times_listed l.id l.generation (pairs_left_in l.fn.pairs))
