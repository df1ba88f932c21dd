-- What a judge of names has seen.
use Rattle.std.specs.Prelude.{◌≡◌, false}
use Rattle.name_sessions.specs.NameSessions.{NameSession, is_unsure}
use Rattle.name_judge.specs.declared.judge.NameJudge.{NameJudge}
use Rattle.name_judge.specs.Seen.{AreRight}

-- The judge has seen this session: it knows whether anything is certain, and if so its tables are right.
pub record HasSeen {A : Type 0} (s : NameSession) (j : NameJudge A) : Type 0 where
  pub doubt : j.unsure ≡ is_unsure s
  pub right : j.unsure ≡ false → AreRight s j.tables
