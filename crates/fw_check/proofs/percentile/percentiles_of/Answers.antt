use Rattle.std.proofs.lemmas.List.Sorted.{IsNonDecreasingBy-from_sort}
use Rattle.fw_check.proofs.percentile.percentiles_of.Goals as goal

pub at_rank-requires-clause-sorted : goal.at_rank-requires-clause-sorted
at_rank-requires-clause-sorted c = IsNonDecreasingBy-from_sort (λ n. n) c.sort_unstable.new.self c.sort_unstable.ensures.sorted

pub at_rank-requires-2-clause-sorted : goal.at_rank-requires-2-clause-sorted
at_rank-requires-2-clause-sorted c = IsNonDecreasingBy-from_sort (λ n. n) c.sort_unstable.new.self c.sort_unstable.ensures.sorted

pub at_rank-requires-3-clause-sorted : goal.at_rank-requires-3-clause-sorted
at_rank-requires-3-clause-sorted c = IsNonDecreasingBy-from_sort (λ n. n) c.sort_unstable.new.self c.sort_unstable.ensures.sorted
