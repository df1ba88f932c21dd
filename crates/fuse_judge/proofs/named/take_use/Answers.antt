use Rattle.fuse_judge.proofs.HandleLaws.{one_fewer}
use Rattle.fuse_judge.proofs.named.take_use.Goals as goal

pub returns-in-Some-clause-counts : goal.returns-in-Some-clause-counts
returns-in-Some-clause-counts g c = rw c.in-Some.is
    (one_fewer c.args.used.now.counts c.take.new.self.counts c.in-Some.file
    (rw c.handle_of.ensures at c.take.ensures.counts))
