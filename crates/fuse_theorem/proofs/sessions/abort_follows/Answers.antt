use Rattle.fuse_theorem.proofs.Refining.AbortFollows.{abort_follows}
use Rattle.fuse_theorem.proofs.sessions.abort_follows.Goals as goal

pub returns : goal.returns
returns g = λ w p all some. abort_follows w all.both.links some
