use Rattle.std.proofs.Common.{refl}
use Rattle.fuse_judge.proofs.OpenLaws.{open_recounted}
use Rattle.fuse_judge.proofs.opens.reserve_opens.Goals as goal

pub returns-in_err-reserve-clause-kept : goal.returns-in_err-reserve-clause-kept
returns-in_err-reserve-clause-kept g c = λ s are.
    open_recounted s c.args.opens.now.counts.counts c.reserve.new.self.counts c.args.opens.now.nodes.counts
    c.args.opens.now.nodes.counts are c.reserve.ensures.counts (λ n. refl)

pub returns-clause-kept : goal.returns-clause-kept
returns-clause-kept g c = λ s are.
    open_recounted s c.args.opens.now.counts.counts c.reserve.new.self.counts c.args.opens.now.nodes.counts
    c.reserve-2.new.self.counts are c.reserve.ensures.counts c.reserve-2.ensures.counts
