use Rattle.std.proofs.Common.{refl}
use Rattle.fuse_judge.proofs.session.SessionJudge.from_known.Goals as goal

pub returns : goal.returns
returns g c = record { are = (refl, refl); seen = c.new.ensures }
