-- What the lists of nodes are that a world gives.
use Rattle.std.specs.Prelude.{◌≤◌, List, All, T, map}
use Rattle.std.specs.Ordering.{nat_cmp}
use Rattle.std.specs.FinMap.{is_sorted}
use Rattle.fuse_spec.specs.declared.NodeCount.{NodeCount}

-- Each node stands with its generation and its count, in rising nodeid, and the root is not among them.
pub record AreListed (nodes : List NodeCount) : Type 0 where
  pub rising : T (is_sorted nat_cmp (map (λ (n : NodeCount). (n.nodeid, n)) nodes))
  pub no_root : All (λ (n : NodeCount). 2 ≤ n.nodeid) nodes
