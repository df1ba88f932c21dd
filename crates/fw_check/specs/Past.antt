-- What the lines before say of a request, a node or an open file: when it was last read, given or opened, and when it was
-- last answered, forgotten or released.
use Rattle.std.specs.Prelude.{ℕ, ◌-◌, Bool, true, false, List, [], ◌∷◌, ◌++◌, Option, Some, None, if◌then◌else◌, length, drop, nat_eq}
use Rattle.fuse_sessions.specs.declared.act.Act.{Act}
use Rattle.fuse_sessions.specs.declared.act.Act.TheVariants as act
use Rattle.fuse_sessions.specs.Counts.{most_count}
use Rattle.fuse_sessions.specs.Sessions.{Session, latest}
use Rattle.fuse_sessions.specs.Waiting.{same_open}
use Rattle.fw_check.specs.declared.past.PastDeed.{PastDeed}
use Rattle.fw_check.specs.declared.past.PastDeed.TheVariants as deed
use Rattle.fw_check.specs.declared.past.Topic.{Topic}
use Rattle.fw_check.specs.declared.past.Topic.TheVariants as topic
use Rattle.fw_check.specs.declared.past.Trace.{Trace}

-- ---- traces

-- what an act did that later faults may be about
abbrev pub past_deed : Act → Option PastDeed
past_deed (act.Read opcode unique) = Some (deed.Read opcode unique)
past_deed (act.Replies unique t) = Some (deed.Answered unique)
past_deed (act.Gives node file is_certain) = Some (deed.Given node file.ino)
past_deed (act.Forgets node lookups) = Some (deed.Forgotten node)
past_deed (act.Opens file) = Some (deed.Opened file)
past_deed (act.Releases file) = Some (deed.Released file)
past_deed a = None

-- how often its node is counted at most, once it was done
abbrev pub count_then : Session → PastDeed → ℕ
count_then s (deed.Given node ino) = most_count s node
count_then s (deed.Forgotten node) = most_count s node
count_then s d = 0

-- of a deed that a session ends with
abbrev pub trace_by : (number : ℕ) → Session → Option PastDeed → List Trace
trace_by number s None = []
trace_by number s (Some d) = record { line = number; deed = d; count = count_then s d } ∷ []

-- the trace of an act that follows a session, if it has one
abbrev pub trace_of : (number : ℕ) → Session → Act → List Trace
trace_of number s a = trace_by number (s ++ a ∷ []) (past_deed a)

-- those of a transfer's acts, in their order
abbrev pub traces_of : (number : ℕ) → Session → List Act → List Trace
traces_of number s [] = []
traces_of number s (a ∷ acts) = trace_of number s a ++ traces_of number (s ++ a ∷ []) acts

-- the last traces, which are remembered
abbrev pub remembered : List Trace → List Trace
remembered past = drop (length past - 4096) past

-- ---- what an act is about

abbrev pub topic_of : Act → Topic
topic_of (act.Read opcode unique) = topic.Request unique
topic_of (act.Takes unique t fit) = topic.Request unique
topic_of (act.Replies unique t) = topic.Request unique
topic_of (act.Interrupted unique) = topic.Request unique
topic_of (act.Resent unique original) = topic.Request original
topic_of (act.Interrupts unique original) = topic.Request original
topic_of (act.RepliesToInterrupt original is_again t) = topic.Request original
topic_of (act.Names node) = topic.Node node
topic_of (act.Forgets node lookups) = topic.Node node
topic_of (act.Gives node file is_certain) = topic.Node node
topic_of (act.Describes node kind ino) = topic.Node node
topic_of (act.Missing node errno) = topic.Node node
topic_of (act.Uses file) = topic.File file
topic_of (act.Releases file) = topic.File file
topic_of (act.Opens file) = topic.File file
topic_of a = topic.Nothing

-- A deed begins a request, a count or an open file, or it ends one.
abbrev pub is_about : (is_end : Bool) → Topic → PastDeed → Bool
is_about false (topic.Request unique) (deed.Read opcode other) = nat_eq other unique
is_about true (topic.Request unique) (deed.Answered other) = nat_eq other unique
is_about false (topic.Node node) (deed.Given other ino) = nat_eq other node
is_about true (topic.Node node) (deed.Forgotten other) = nat_eq other node
is_about false (topic.File file) (deed.Opened other) = same_open other file
is_about true (topic.File file) (deed.Released other) = same_open other file
is_about is_end t d = false

-- the last trace that passes a test
abbrev pub latest_trace : (Trace → Bool) → List Trace → Option Trace
latest_trace test past = latest (λ t. if test t then Some t else None) past

-- the last trace of what an act is about
abbrev pub last_of : (is_end : Bool) → Topic → List Trace → Option Trace
last_of is_end about past = latest_trace (λ t. is_about is_end about t.deed) past
