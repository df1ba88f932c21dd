use Rattle.std.proofs.Common.{refl}
use Rattle.fuse_judge.proofs.PendingLaws.{pending_recounted}
use Rattle.fuse_judge.proofs.pending.reserve_pending.Goals as goal

pub returns-in_err-reserve-2-clause-kept : goal.returns-in_err-reserve-2-clause-kept
returns-in_err-reserve-2-clause-kept g c = λ s are. rw c.reserve.ensures.entries
    (pending_recounted s c.args.pending.now.rows.entries c.args.pending.now.named.counts c.reserve-2.new.self.counts
    c.args.pending.now.used.counts c.args.pending.now.used.counts are c.reserve-2.ensures.counts (λ q. refl))

pub returns-clause-kept : goal.returns-clause-kept
returns-clause-kept g c = λ s are. rw c.reserve.ensures.entries
    (pending_recounted s c.args.pending.now.rows.entries c.args.pending.now.named.counts c.reserve-2.new.self.counts
    c.args.pending.now.used.counts c.reserve-3.new.self.counts are c.reserve-2.ensures.counts c.reserve-3.ensures.counts)
