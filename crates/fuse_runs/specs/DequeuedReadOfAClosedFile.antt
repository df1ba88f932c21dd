-- A worked run: dequeued read of a closed file.
use Rattle.fuse_spec.specs.declared.Minor.TheVariants as minor
use Rattle.std.specs.Prelude.{List, [], ◌∷◌, codes, true, false}
use Rattle.fuse_spec.specs.World.Events.{Event}
use Rattle.fuse_spec.specs.World.Events as event
use Rattle.fuse_spec.specs.World.Records.{Record, outcome, refused, answered}
use Rattle.fuse_runs.specs.LockStep.{Both, IsRecorded, after_all, start}
use Rattle.fuse_spec.specs.Calls.Calls as call
use Rattle.fuse_spec.specs.Calls.Answers as answer
use Rattle.fuse_spec.specs.declared.Taken.TheVariants as word
use Rattle.fuse_spec.specs.declared.WriteResult.TheVariants as result
use Rattle.fuse_spec.specs.declared.IntrEffect.TheVariants as effect
use Rattle.fuse_spec.specs.declared.Refusal.TheVariants as refusal

-- The events of the run, what both worlds have to record of them, and both worlds after them.
abbrev pub events_0 : List Event
events_0 =
    event.mount 1000 0 minor.M31 ∷
    event.read_pending 0 ∷
    event.take 0 ∷
    event.perform 2 ∷
    event.write 0 ∷
    event.settle 0 ∷
    event.call (call.create (codes "/f")) ∷
    event.read_pending 0 ∷
    event.take 0 ∷
    event.perform 4 ∷
    event.write 0 ∷
    event.settle 0 ∷
    event.call (call.read 1 0 10) ∷
    event.call (call.close 1) ∷
    event.read_pending 1 ∷
    event.intr 2 true ∷
    event.read_pending 0 ∷
    event.take 0 ∷
    event.perform 8 ∷
    event.write 0 ∷
    event.settle 0 ∷
    event.evict 2 ∷
    []

abbrev pub records_0 : List Record
records_0 =
    outcome event.mounted ∷
    outcome (event.is_read 2) ∷
    outcome (event.taken 2 word.Held) ∷
    outcome (event.performed 2 0 false) ∷
    outcome (event.written 2 result.Accepted) ∷
    outcome (event.settled 2 result.Accepted) ∷
    outcome (event.begun 1) ∷
    outcome (event.is_read 4) ∷
    outcome (event.taken 4 word.Held) ∷
    outcome (event.performed 4 0 false) ∷
    outcome (event.written 4 result.Accepted) ∷
    answered 1 answer.done ∷
    outcome (event.settled 4 result.Accepted) ∷
    outcome (event.begun 2) ∷
    outcome (event.begun 3) ∷
    answered 3 answer.done ∷
    refused refusal.NoSuch ∷
    outcome (event.interrupted 2 effect.Dequeued) ∷
    answered 2 (answer.failed 4) ∷
    outcome (event.is_read 8) ∷
    outcome (event.taken 8 word.Held) ∷
    outcome (event.performed 8 0 false) ∷
    outcome (event.written 8 result.Accepted) ∷
    outcome (event.settled 8 result.Accepted) ∷
    refused refusal.Busy ∷
    []

abbrev pub worlds_0 : Both
worlds_0 = after_all start events_0

-- Both worlds record this.
abbrev pub IsComputed : Type 0
IsComputed = IsRecorded worlds_0 records_0
