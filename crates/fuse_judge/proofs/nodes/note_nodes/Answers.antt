use Rattle.std.proofs.Common.{◌^◌}
use Rattle.fuse_judge.proofs.NodeLaws.{left_alone, nodes_few, nodes_left}
use Rattle.fuse_judge.proofs.nodes.note_nodes.Goals as goal

pub give-verdict-requires-clause-few : goal.give-verdict-requires-clause-few
give-verdict-requires-clause-few g c = nodes_few _ _ c.requires.few.1 (2 ^ 64) c.requires.few.2

pub returns-in_default-clause-kept : goal.returns-in_default-clause-kept
returns-in_default-clause-kept g c = λ s are. left_alone s c.args.act _
    (nodes_left c.args.act c.in_default.not-Gives c.in_default.not-Forgets) are

pub returns-in-Gives-clause-kept : goal.returns-in-Gives-clause-kept
returns-in-Gives-clause-kept g c = λ s are. rw c.in-Gives.is (c.give-verdict.ensures.kept s are)

pub returns-in-Forgets-clause-kept : goal.returns-in-Forgets-clause-kept
returns-in-Forgets-clause-kept g c = λ s are. rw c.in-Forgets.is (c.forget-verdict.ensures.kept s are)
