-- What contracts see of events and records.
use Rattle.std.specs.Prelude.{true, false, List, [], ◌∷◌, ◌++◌, Option, Some, None}
use Rattle.fuse_spec.specs.declared.Refusal.{Refusal}
use Rattle.fuse_spec.specs.declared.Refusal.TheVariants.{NoMemory, NoSuch, Exhausted}
use Rattle.fuse_spec.specs.World.Events as event
use Rattle.fuse_spec.specs.World.Records as record_of_run
use Rattle.fk_kernel.specs.declared.read.Pick.{Pick}
use Rattle.fk_kernel.specs.declared.read.Pick.TheVariants as pick
use Rattle.fk_syscalls.specs.Values.{call_of, answer_of}
use Rattle.fs_server.specs.declared.server.ServerFault.{ServerFault}
use Rattle.fs_server.specs.declared.server.ServerFault.TheVariants as fault
use Rattle.fw_world.specs.declared.event.Event.{Event}
use Rattle.fw_world.specs.declared.event.Event.TheVariants.{Mount, Call, Read, Take, Do, Again, Write, Settle}
use Rattle.fw_world.specs.declared.event.Event.TheVariants.{Interrupt, Tick, DropName, Evict, Abort}
use Rattle.fw_world.specs.declared.event.Outcome.{Outcome}
use Rattle.fw_world.specs.declared.event.Outcome.TheVariants as outcome
use Rattle.fw_world.specs.declared.record.Record.{Record}
use Rattle.fw_world.specs.declared.record.Record.TheVariants as recorded

-- the read of the definitions
abbrev pub read_of : Pick → event.Event
read_of pick.Interrupt = event.read_interrupt
read_of (pick.Forgets count) = event.read_forgets count
read_of (pick.Pending place) = event.read_pending place

-- the event of the definitions
abbrev pub event_of : Event → event.Event
event_of (Mount found_ms missing_ms minor) = event.mount found_ms missing_ms minor
event_of (Call call) = event.call (call_of call)
event_of (Read pick) = read_of pick
event_of (Take place) = event.take place
event_of (Do unique) = event.perform unique
event_of (Again unique) = event.again unique
event_of (Write place) = event.write place
event_of (Settle place) = event.settle place
event_of (Interrupt call fatal) = event.intr call fatal
event_of (Tick ms) = event.tick ms
event_of (DropName directory name) = event.drop_name directory name.now
event_of (Evict node) = event.evict node
event_of Abort = event.abort

-- what an event is refused for that met a fault of the server
abbrev pub refusal_for : ServerFault → Refusal
refusal_for fault.Exhausted = Exhausted
refusal_for fault.Memory = NoMemory
refusal_for other = NoSuch

-- a list with one copy more, if there is one
abbrev pub with_copy : {X : Type 0} → List X → Option X → List X
with_copy xs None = xs
with_copy xs (Some x) = xs ++ x ∷ []

-- the outcome of the definitions, which has no opcode and no length (`IsShown` says which these are)
abbrev pub outcome_of : Outcome → event.Outcome
outcome_of outcome.Mounted = event.mounted
outcome_of (outcome.Begun call) = event.begun call
outcome_of (outcome.Read unique opcode len) = event.is_read unique
outcome_of (outcome.Taken unique word) = event.taken unique word
outcome_of (outcome.Done unique errno len) = event.performed unique errno false
outcome_of (outcome.Lost unique errno) = event.performed unique errno true
outcome_of (outcome.SentAgain unique len) = event.sent_again unique
outcome_of (outcome.Written unique result) = event.written unique result
outcome_of (outcome.Settled unique result) = event.settled unique result
outcome_of (outcome.Interrupted call effect) = event.interrupted call effect
outcome_of (outcome.Now clock) = event.now clock
outcome_of outcome.Dropped = event.dropped
outcome_of (outcome.Evicted node count) = event.evicted node count
outcome_of outcome.Aborted = event.aborted

-- the record of the definitions
abbrev pub run_record_of : {A : Type 0} → Record A → record_of_run.Record
run_record_of (recorded.Outcome outcome) = record_of_run.outcome (outcome_of outcome)
run_record_of (recorded.Refused refusal) = record_of_run.refused refusal
run_record_of recorded.LinkLost = record_of_run.link_lost
run_record_of (recorded.Answered call answer) = record_of_run.answered call (answer_of answer)
