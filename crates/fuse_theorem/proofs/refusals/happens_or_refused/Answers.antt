use Rattle.fuse_theorem.proofs.RefusalCases.SameRefusals.{happens_or_refused}
use Rattle.fuse_theorem.proofs.refusals.happens_or_refused.Goals as goal

pub returns : goal.returns
returns g = λ w e. happens_or_refused w e
