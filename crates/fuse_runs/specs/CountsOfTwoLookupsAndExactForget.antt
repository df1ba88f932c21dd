-- A worked run: counts of two lookups and exact forget.
use Rattle.fuse_spec.specs.declared.Minor.TheVariants as minor
use Rattle.std.specs.Prelude.{◌≡◌, List, [], ◌∷◌, codes, false}
use Rattle.fuse_spec.specs.World.Events.{Event}
use Rattle.fuse_spec.specs.World.Events as event
use Rattle.fuse_spec.specs.World.Records.{Record, outcome, refused, answered}
use Rattle.fuse_runs.specs.LockStep.{Both, IsRecorded, after_all, start, emptied, nodes_shown}
use Rattle.fuse_spec.specs.Calls.Calls as call
use Rattle.fuse_spec.specs.Calls.Answers as answer
use Rattle.fuse_spec.specs.declared.Taken.TheVariants as word
use Rattle.fuse_spec.specs.declared.WriteResult.TheVariants as result
use Rattle.fuse_spec.specs.declared.Refusal.TheVariants as refusal
use Rattle.fuse_spec.specs.declared.Kind.TheVariants as kind

-- The events of the run and of its second part, what both worlds have to record of them, and both worlds after them.
abbrev pub events_0 : List Event
events_0 =
    event.mount 1000 0 minor.M31 ∷
    event.read_pending 0 ∷
    event.take 0 ∷
    event.perform 2 ∷
    event.write 0 ∷
    event.settle 0 ∷
    event.call (call.mkdir (codes "/a")) ∷
    event.read_pending 0 ∷
    event.take 0 ∷
    event.perform 4 ∷
    event.write 0 ∷
    event.settle 0 ∷
    event.tick 1000 ∷
    event.call (call.stat (codes "/a")) ∷
    event.call (call.stat (codes "/a")) ∷
    event.read_pending 0 ∷
    event.take 0 ∷
    event.perform 6 ∷
    event.write 0 ∷
    event.settle 0 ∷
    event.read_pending 0 ∷
    event.take 0 ∷
    event.perform 8 ∷
    event.write 0 ∷
    event.settle 0 ∷
    event.evict 2 ∷
    event.read_pending 0 ∷
    event.take 0 ∷
    event.perform 10 ∷
    event.write 0 ∷
    event.settle 0 ∷
    event.read_pending 0 ∷
    event.take 0 ∷
    event.perform 12 ∷
    event.write 0 ∷
    event.settle 0 ∷
    []

abbrev pub records_0 : List Record
records_0 =
    outcome event.mounted ∷
    outcome (event.is_read 2) ∷
    outcome (event.taken 2 word.Held) ∷
    outcome (event.performed 2 0 false) ∷
    outcome (event.written 2 result.Accepted) ∷
    outcome (event.settled 2 result.Accepted) ∷
    outcome (event.begun 1) ∷
    outcome (event.is_read 4) ∷
    outcome (event.taken 4 word.Held) ∷
    outcome (event.performed 4 0 false) ∷
    outcome (event.written 4 result.Accepted) ∷
    answered 1 answer.done ∷
    outcome (event.settled 4 result.Accepted) ∷
    outcome (event.now 1000) ∷
    outcome (event.begun 2) ∷
    outcome (event.begun 3) ∷
    outcome (event.is_read 6) ∷
    outcome (event.taken 6 word.Held) ∷
    outcome (event.performed 6 0 false) ∷
    outcome (event.written 6 result.Accepted) ∷
    outcome (event.settled 6 result.Accepted) ∷
    outcome (event.is_read 8) ∷
    outcome (event.taken 8 word.Held) ∷
    outcome (event.performed 8 0 false) ∷
    outcome (event.written 8 result.Accepted) ∷
    outcome (event.settled 8 result.Accepted) ∷
    refused refusal.Busy ∷
    outcome (event.is_read 10) ∷
    outcome (event.taken 10 word.Held) ∷
    outcome (event.performed 10 0 false) ∷
    outcome (event.written 10 result.Accepted) ∷
    answered 2 (answer.attributes (record { kind = kind.Directory; ino = 2; size = 0; nlink = 1 })) ∷
    outcome (event.settled 10 result.Accepted) ∷
    outcome (event.is_read 12) ∷
    outcome (event.taken 12 word.Held) ∷
    outcome (event.performed 12 0 false) ∷
    outcome (event.written 12 result.Accepted) ∷
    answered 3 (answer.attributes (record { kind = kind.Directory; ino = 2; size = 0; nlink = 1 })) ∷
    outcome (event.settled 12 result.Accepted) ∷
    []

abbrev pub worlds_0 : Both
worlds_0 = after_all start events_0

abbrev pub events_1 : List Event
events_1 =
    event.drop_name 1 (codes "a") ∷
    event.evict 2 ∷
    event.read_forgets 1 ∷
    event.take 0 ∷
    []

abbrev pub records_1 : List Record
records_1 =
    outcome event.dropped ∷
    outcome (event.evicted 2 3) ∷
    outcome (event.is_read 14) ∷
    outcome (event.taken 14 word.Forgot) ∷
    []

abbrev pub worlds_1 : Both
worlds_1 = after_all (emptied worlds_0) events_1

-- Both worlds record this, and the kernel and the server hold these nodes.
abbrev pub IsComputed : Type 0
IsComputed = IsRecorded worlds_0 records_0 × (nodes_shown worlds_0 ≡ (((2, 1, 3) ∷ []), ((2, 1, 3) ∷ [])))
    × IsRecorded worlds_1 records_1 × (nodes_shown worlds_1 ≡ (([]), ([])))
