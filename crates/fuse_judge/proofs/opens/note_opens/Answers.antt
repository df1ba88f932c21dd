use Rattle.fuse_judge.proofs.OpenLaws.{files_left, left_open}
use Rattle.fuse_judge.proofs.opens.note_opens.Goals as goal

pub returns-in_default-clause-kept : goal.returns-in_default-clause-kept
returns-in_default-clause-kept g c = λ s are. left_open s c.args.act _ _
    (files_left c.args.act c.in_default.not-Opens c.in_default.not-Releases) are

pub returns-in-Opens-clause-kept : goal.returns-in-Opens-clause-kept
returns-in-Opens-clause-kept g c = λ s are. rw c.in-Opens.is (c.open.ensures.kept s are)

pub returns-in-Releases-clause-kept : goal.returns-in-Releases-clause-kept
returns-in-Releases-clause-kept g c = λ s are. rw c.in-Releases.is (c.release.ensures.kept s are)
