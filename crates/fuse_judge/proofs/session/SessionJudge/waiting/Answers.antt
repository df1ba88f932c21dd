use Rattle.std.proofs.Common.{◌∙◌}
use Rattle.fuse_judge.proofs.session.SessionJudge.waiting.Goals as goal

pub returns : goal.returns
returns g c = rw (← c.self.view_is) (λ start before s right. c.copied.ensures ∙ c.asked.ensures s right.seen)
