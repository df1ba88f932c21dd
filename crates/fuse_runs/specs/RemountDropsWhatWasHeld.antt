-- A worked run: remount drops what was held.
use Rattle.fuse_spec.specs.declared.Minor.TheVariants as minor
use Rattle.std.specs.Prelude.{List, [], ◌∷◌, codes, false}
use Rattle.fuse_spec.specs.World.Events.{Event}
use Rattle.fuse_spec.specs.World.Events as event
use Rattle.fuse_spec.specs.World.Records.{Record, outcome, refused, answered}
use Rattle.fuse_runs.specs.LockStep.{Both, IsRecorded, after_all, start}
use Rattle.fuse_spec.specs.Calls.Calls as call
use Rattle.fuse_spec.specs.Calls.Answers as answer
use Rattle.fuse_spec.specs.declared.Taken.TheVariants as word
use Rattle.fuse_spec.specs.declared.WriteResult.TheVariants as result
use Rattle.fuse_spec.specs.declared.Refusal.TheVariants as refusal

-- The events of the run, what both worlds have to record of them, and both worlds after them.
abbrev pub events_0 : List Event
events_0 =
    event.mount 1000 0 minor.M31 ∷
    event.read_pending 0 ∷
    event.take 0 ∷
    event.perform 2 ∷
    event.write 0 ∷
    event.settle 0 ∷
    event.call (call.mkdir (codes "/a")) ∷
    event.read_pending 0 ∷
    event.take 0 ∷
    event.abort ∷
    event.abort ∷
    event.mount 1000 0 minor.M31 ∷
    event.perform 4 ∷
    event.read_pending 0 ∷
    event.take 0 ∷
    event.perform 2 ∷
    event.write 0 ∷
    event.settle 0 ∷
    event.call (call.stat (codes "/a")) ∷
    event.read_pending 0 ∷
    event.take 0 ∷
    event.perform 4 ∷
    event.write 0 ∷
    event.settle 0 ∷
    []

abbrev pub records_0 : List Record
records_0 =
    outcome event.mounted ∷
    outcome (event.is_read 2) ∷
    outcome (event.taken 2 word.Held) ∷
    outcome (event.performed 2 0 false) ∷
    outcome (event.written 2 result.Accepted) ∷
    outcome (event.settled 2 result.Accepted) ∷
    outcome (event.begun 1) ∷
    outcome (event.is_read 4) ∷
    outcome (event.taken 4 word.Held) ∷
    outcome event.aborted ∷
    answered 1 (answer.failed 103) ∷
    refused refusal.NotReady ∷
    outcome event.mounted ∷
    refused refusal.NoSuch ∷
    outcome (event.is_read 2) ∷
    outcome (event.taken 2 word.Held) ∷
    outcome (event.performed 2 0 false) ∷
    outcome (event.written 2 result.Accepted) ∷
    outcome (event.settled 2 result.Accepted) ∷
    outcome (event.begun 2) ∷
    outcome (event.is_read 4) ∷
    outcome (event.taken 4 word.Held) ∷
    outcome (event.performed 4 0 false) ∷
    outcome (event.written 4 result.Accepted) ∷
    answered 2 (answer.failed 2) ∷
    outcome (event.settled 4 result.Accepted) ∷
    []

abbrev pub worlds_0 : Both
worlds_0 = after_all start events_0

-- Both worlds record this.
abbrev pub IsComputed : Type 0
IsComputed = IsRecorded worlds_0 records_0
