-- A worked run: interrupt mark belongs to the request.
use Rattle.fuse_spec.specs.declared.Minor.TheVariants as minor
use Rattle.std.specs.Prelude.{List, [], ◌∷◌, codes, false}
use Rattle.fuse_spec.specs.World.Events.{Event}
use Rattle.fuse_spec.specs.World.Events as event
use Rattle.fuse_spec.specs.World.Records.{Record, outcome, answered}
use Rattle.fuse_runs.specs.LockStep.{Both, IsRecorded, after_all, start}
use Rattle.fuse_spec.specs.Calls.Calls as call
use Rattle.fuse_spec.specs.Calls.Answers as answer
use Rattle.fuse_spec.specs.declared.Taken.TheVariants as word
use Rattle.fuse_spec.specs.declared.WriteResult.TheVariants as result
use Rattle.fuse_spec.specs.declared.IntrEffect.TheVariants as effect

-- The events of the run, what both worlds have to record of them, and both worlds after them.
abbrev pub events_0 : List Event
events_0 =
    event.mount 1000 0 minor.M31 ∷
    event.read_pending 0 ∷
    event.take 0 ∷
    event.perform 2 ∷
    event.write 0 ∷
    event.settle 0 ∷
    event.call (call.mkdir (codes "/a")) ∷
    event.read_pending 0 ∷
    event.take 0 ∷
    event.perform 4 ∷
    event.write 0 ∷
    event.settle 0 ∷
    event.tick 1000 ∷
    event.call (call.stat (codes "/a")) ∷
    event.read_pending 0 ∷
    event.take 0 ∷
    event.perform 6 ∷
    event.intr 2 false ∷
    event.read_interrupt ∷
    event.take 0 ∷
    event.write 0 ∷
    event.intr 2 false ∷
    event.read_pending 0 ∷
    event.read_interrupt ∷
    event.take 0 ∷
    event.take 0 ∷
    event.perform 8 ∷
    event.write 0 ∷
    []

abbrev pub records_0 : List Record
records_0 =
    outcome event.mounted ∷
    outcome (event.is_read 2) ∷
    outcome (event.taken 2 word.Held) ∷
    outcome (event.performed 2 0 false) ∷
    outcome (event.written 2 result.Accepted) ∷
    outcome (event.settled 2 result.Accepted) ∷
    outcome (event.begun 1) ∷
    outcome (event.is_read 4) ∷
    outcome (event.taken 4 word.Held) ∷
    outcome (event.performed 4 0 false) ∷
    outcome (event.written 4 result.Accepted) ∷
    answered 1 answer.done ∷
    outcome (event.settled 4 result.Accepted) ∷
    outcome (event.now 1000) ∷
    outcome (event.begun 2) ∷
    outcome (event.is_read 6) ∷
    outcome (event.taken 6 word.Held) ∷
    outcome (event.performed 6 0 false) ∷
    outcome (event.interrupted 2 effect.Queued) ∷
    outcome (event.is_read 7) ∷
    outcome (event.taken 7 word.Ignored) ∷
    outcome (event.written 6 result.Accepted) ∷
    outcome (event.interrupted 2 effect.Flagged) ∷
    outcome (event.is_read 8) ∷
    outcome (event.is_read 9) ∷
    outcome (event.taken 8 word.Held) ∷
    outcome (event.taken 9 word.Marked) ∷
    outcome (event.performed 8 4 false) ∷
    outcome (event.written 8 result.Accepted) ∷
    answered 2 (answer.failed 4) ∷
    []

abbrev pub worlds_0 : Both
worlds_0 = after_all start events_0

-- Both worlds record this.
abbrev pub IsComputed : Type 0
IsComputed = IsRecorded worlds_0 records_0
