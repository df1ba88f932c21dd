use Rattle.std.proofs.Common.{◌≡◌, ◌++◌, List, length}
use Rattle.std.specs.Prelude.{flat_map}
use Rattle.fuse_replies.specs.Records.{entry_records_in}
use Rattle.name_sessions.specs.NameActs.{NameAct}
use Rattle.name_sessions.specs.NameSessions.{NameSession}
use Rattle.name_sessions.specs.ReplyNames.{record_acts}
use Rattle.name_judge.specs.Seen.{AreRight}
use Rattle.name_judge.proofs.replies.see_records.Given as goal

-- the records so far, and those that are left, are all
abbrev pub invariant-records : goal.invariant-records
invariant-records g l = (s : NameSession) → AreRight s l.fn.tables
    → (acts : List NameAct)
    × (acts ++ flat_map (record_acts l.fn.parent) (entry_records_in l.left)
    ≡ flat_map (record_acts l.fn.parent) (entry_records_in l.fn.records))
    × AreRight (s ++ acts) l.tables

abbrev pub decreases-records : goal.decreases-records
decreases-records g l = length (entry_records_in l.left)
