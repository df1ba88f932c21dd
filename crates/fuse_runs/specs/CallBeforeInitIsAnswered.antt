-- A worked run: call before init is answered.
use Rattle.fuse_spec.specs.declared.Minor.TheVariants as minor
use Rattle.std.specs.Prelude.{List, [], ◌∷◌, codes}
use Rattle.fuse_spec.specs.World.Events.{Event}
use Rattle.fuse_spec.specs.World.Events as event
use Rattle.fuse_spec.specs.World.Records.{Record, outcome, refused}
use Rattle.fuse_runs.specs.LockStep.{Both, IsRecorded, after_all, start}
use Rattle.fuse_spec.specs.Calls.Calls as call
use Rattle.fuse_spec.specs.declared.Refusal.TheVariants as refusal

-- The events of the run, what both worlds have to record of them, and both worlds after them.
abbrev pub events_0 : List Event
events_0 =
    event.mount 1000 0 minor.M31 ∷
    event.call (call.stat (codes "/a")) ∷
    []

abbrev pub records_0 : List Record
records_0 =
    outcome event.mounted ∷
    refused refusal.NotReady ∷
    []

abbrev pub worlds_0 : Both
worlds_0 = after_all start events_0

-- Both worlds record this.
abbrev pub IsComputed : Type 0
IsComputed = IsRecorded worlds_0 records_0
