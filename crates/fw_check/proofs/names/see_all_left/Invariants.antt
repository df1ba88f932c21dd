use Rattle.std.proofs.Common.{◌++◌, take}
use Rattle.std.specs.List.{flat_map}
use Rattle.fuse_sessions.specs.Sessions.{Session}
use Rattle.name_sessions.specs.NameFrames.{leaves}
use Rattle.name_sessions.specs.NameSessions.{NameSession}
use Rattle.name_judge.specs.Judged.{HasSeen}
use Rattle.fw_check.specs.Standing.{Stands}
use Rattle.fw_check.proofs.names.see_all_left.Given as goal

-- what the acts that the loop has passed leave is seen
abbrev pub invariant-loop-act : goal.invariant-loop-act
invariant-loop-act g l = (n : NameSession) (later : Session) → HasSeen n l.initial.names
    → Stands later l.standing.nodes.entries l.standing.files.entries
    → HasSeen (n ++ flat_map (leaves later) (take l.act-index l.acts)) l.names
