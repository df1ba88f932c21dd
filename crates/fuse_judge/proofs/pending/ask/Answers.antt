use Rattle.fuse_judge.proofs.PendingLaws.{listed_asked, asked_interrupted}
use Rattle.fuse_judge.proofs.pending.ask.Goals as goal

pub returns-clause-listed : goal.returns-clause-listed
returns-clause-listed g c = λ xs are. rw c.put.ensures.entries
    (listed_asked xs c.args.pending.now.rows.entries c.args.unique c.args.pending.now.named.counts
    c.args.pending.now.used.counts are c.args.asked.now c.add_names.new.named.counts c.add_uses.new.used.counts
    c.requires.gone c.add_names.ensures.counts c.add_uses.ensures.counts)

pub returns-clause-interrupted : goal.returns-clause-interrupted
returns-clause-interrupted g c = λ s are. rw c.put.ensures.entries
    (asked_interrupted s c.args.pending.now.rows.entries c.args.unique c.args.asked.now are)
