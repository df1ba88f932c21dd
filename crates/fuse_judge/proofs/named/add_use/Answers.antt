use Rattle.fuse_judge.proofs.HandleLaws.{one_more}
use Rattle.fuse_judge.proofs.named.add_use.Goals as goal

pub add-requires-clause-few : goal.add-requires-clause-few
add-requires-clause-few g c = rw c.handle_of.ensures (c.requires.few c.in-Some.file)

pub returns-in-Some-clause-counts : goal.returns-in-Some-clause-counts
returns-in-Some-clause-counts g c = rw c.in-Some.is
    (one_more c.args.used.now.counts c.add.new.self.counts c.in-Some.file
    (rw c.handle_of.ensures at c.add.ensures.counts))
