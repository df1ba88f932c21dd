use Rattle.std.proofs.Common.{◌≡◌}
use Rattle.fuse_sessions.specs.Counts.{most_count}
use Rattle.fuse_sessions.specs.Sessions.{Session}
use Rattle.fw_check.proofs.LifeLaws.{Passed}
use Rattle.fw_check.proofs.life.put_life.Given as goal

abbrev pub invariant-loop-act : goal.invariant-loop-act
invariant-loop-act g l = (s : Session) → most_count s l.node ≡ l.fn.count
    → Passed l.number l.node l.fn.first s l.acts l.initial.text.items l.text.items l.act-index l.doer l.counted
