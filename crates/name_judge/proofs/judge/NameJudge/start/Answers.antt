use Rattle.std.proofs.Common.{[], sym, subst}
use Rattle.name_sessions.specs.NameFrames.{start_names}
use Rattle.name_judge.specs.Judged.{HasSeen}
use Rattle.name_judge.proofs.judge.NameJudge.start.Goals as goal

pub returns-then-is_joined : goal.returns-then-is_joined
returns-then-is_joined g c =
    subst (λ b. HasSeen (start_names b) c.doubt.new.self) (sym c.if-is_joined.true) (c.doubt.ensures [])
