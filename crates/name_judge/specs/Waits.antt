-- The table of requests that wait.
use Rattle.std.specs.Prelude.{◌≡◌, ℕ}
use Rattle.std.specs.Option.{option_map}
use Rattle.fuse_spec.specs.Values.Maps.{Map, get}
use Rattle.name_sessions.specs.NameSessions.{NameSession, waits}
use Rattle.name_judge.specs.declared.kept.Waiting.{Waiting}
use Rattle.name_judge.specs.Kept.{asked_of}

-- The requests in the table are those that wait, each under its number.
abbrev pub AreWaiting : {A : Type 0} → NameSession → Map (Waiting A) → Type 0
AreWaiting s rows = (unique : ℕ) → option_map asked_of (get rows unique) ≡ waits s unique
