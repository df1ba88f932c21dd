-- What an event and a list of events come to.
use Rattle.std.specs.Prelude.{ℕ, ◌+◌, List, [], ◌∷◌, ◌++◌, Result, Ok, Err, length, map, take}
use Rattle.fuse_spec.specs.Values.Maps.{remove}
use Rattle.fuse_spec.specs.World.Worlds.{World}
use Rattle.fuse_spec.specs.World.Events.{Event, Outcome}
use Rattle.fuse_spec.specs.World.Records.{Record}
use Rattle.fuse_spec.specs.Reference.Plain.{Plain}
use Rattle.fuse_spec.specs.Reference.PlainWords.{Steps}
use Rattle.fuse_spec.specs.Claim.Counts.{Protocol}
use Rattle.fuse_spec.specs.Claim.Alike.{Alike}
use Rattle.fuse_spec.specs.Claim.Runs.{Run, AnswersOnce, CallsEnd, IsOver}
use Rattle.fw_world.specs.declared.event.Event.{Event as EventValue}
use Rattle.fw_world.specs.declared.record.Record.{Record as RecordValue}
use Rattle.fw_world.specs.Frames.{AreShownAfter}
use Rattle.fw_world.specs.Values.{event_of, run_record_of}

-- How many calls are not over: those that are unanswered, and those whose answer waits to be collected.
abbrev pub calls_not_over : World → ℕ
calls_not_over w = length w.kernel.vfs.answers + length w.kernel.vfs.calls

-- The world once the answer of one call is collected.
abbrev pub call_collected : World → ℕ → World
call_collected w call = record w {
  kernel = record w.kernel { vfs = record w.kernel.vfs { answers = remove w.kernel.vfs.answers call } };
}

-- The events that ran: all of them, or this many of the first.
abbrev pub events_run : {X E : Type 0} → Result X ℕ → List E → List E
events_run (Ok x) events = events
events_run (Err k) events = take k events

-- The event happened with this outcome: every plain world that is alike to the world before takes its step, in words of
-- its own, and is alike to the world after, which keeps the reference protocol. A call that was over stays so.
pub record StepsAs (old : World) (event : Event) (outcome : Outcome) (new : World) : Type 0 where
  pub plain_step : (p : Plain) → Alike old p → (q : Plain) × Steps p event outcome q × Alike new q
  pub keeps : Protocol new
  pub over : (call : ℕ) → IsOver old call → IsOver new call

-- The events ran with these records: from every plain world that is alike to the world before there is one plain run
-- over the events with the same records, at whose end it is alike to the world after. Each call is answered at most
-- once, and over with its answer, so that no later list answers it.
pub record RunsAs (old : World) (events : List Event) (added : List Record) (new : World) : Type 0 where
  pub plain_run : (p : Plain) → Alike old p → (q : Plain) × Run old p events added new q × Alike new q
  pub keeps : Protocol new
  pub once : AnswersOnce added
  pub ended : CallsEnd old added new

-- One event ran with these records, whose first, if it is an outcome, says of the event's frame what is so: its opcode
-- and its length.
pub record RunsOne {A : Type 0} (old : World) (event : EventValue) (added : List (RecordValue A)) (new : World)
    : Type 0 where
  pub runs : RunsAs old (event_of event ∷ []) (map run_record_of added) new
  pub shown : AreShownAfter old (event_of event) added

-- Each of these events ran so, one after another.
pub data RunsEach {S A : Type 0} (Runs : S → EventValue → List (RecordValue A) → S → Type 0) : S → List EventValue
    → List (RecordValue A) → S → Type 0 where
  no_event : (s : S) → RunsEach Runs s [] [] s
  event_ran : (first : S) (event : EventValue) (added : List (RecordValue A)) (next : S) (events : List EventValue)
      (records : List (RecordValue A)) (last : S)
      → Runs first event added next → RunsEach Runs next events records last
      → RunsEach Runs first (event ∷ events) (added ++ records) last
