use Rattle.std.proofs.Common.{◌≡◌}
use Rattle.fuse_judge.specs.Tallies.{count_in}
use Rattle.fuse_judge.proofs.tally.Tally.reserve.Given as goal

abbrev pub invariant-loop : goal.invariant-loop
invariant-loop g l =
    (q : g.row.K.Denot) → count_in g.K.PartialEq.eq l.self.counts q ≡ count_in g.K.PartialEq.eq l.fn.self.counts q
