use Rattle.fuse_sessions.specs.Sessions.{Session}
use Rattle.fw_check.specs.Standing.{Stands}
use Rattle.fw_check.proofs.PastLaws.{Traced}
use Rattle.fw_check.proofs.seen.note_acts.Given as goal

-- the acts that the loop has passed are written down, and their traces
abbrev pub invariant-loop-act : goal.invariant-loop-act
invariant-loop-act g l = (s : Session) → Stands s l.initial.standing.nodes.entries l.initial.standing.files.entries
    → Traced l.number s l.acts l.traces.items l.act-index l.standing.nodes.entries l.standing.files.entries
