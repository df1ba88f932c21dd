-- A worked run: sixty four calls then full.
use Rattle.fuse_spec.specs.declared.Minor.TheVariants as minor
use Rattle.std.specs.Prelude.{List, [], ◌∷◌, codes, false}
use Rattle.fuse_spec.specs.World.Events.{Event}
use Rattle.fuse_spec.specs.World.Events as event
use Rattle.fuse_spec.specs.World.Records.{Record, outcome, refused, answered}
use Rattle.fuse_runs.specs.LockStep.{Both, IsRecorded, after_all, start}
use Rattle.fuse_spec.specs.Calls.Calls as call
use Rattle.fuse_spec.specs.Calls.Answers as answer
use Rattle.fuse_spec.specs.declared.Taken.TheVariants as word
use Rattle.fuse_spec.specs.declared.WriteResult.TheVariants as result
use Rattle.fuse_spec.specs.declared.Refusal.TheVariants as refusal
use Rattle.fuse_spec.specs.declared.Kind.TheVariants as kind

-- The events of the run, what both worlds have to record of them, and both worlds after them.
abbrev pub events_0 : List Event
events_0 =
    event.mount 1000 0 minor.M31 ∷ event.read_pending 0 ∷ event.take 0 ∷ event.perform 2 ∷
    event.write 0 ∷ event.settle 0 ∷ event.call (call.stat (codes "/")) ∷ event.call (call.stat (codes "/")) ∷
    event.call (call.stat (codes "/")) ∷ event.call (call.stat (codes "/")) ∷ event.call
    (call.stat (codes "/")) ∷ event.call (call.stat (codes "/")) ∷
    event.call (call.stat (codes "/")) ∷ event.call (call.stat (codes "/")) ∷ event.call
    (call.stat (codes "/")) ∷ event.call (call.stat (codes "/")) ∷
    event.call (call.stat (codes "/")) ∷ event.call (call.stat (codes "/")) ∷ event.call
    (call.stat (codes "/")) ∷ event.call (call.stat (codes "/")) ∷
    event.call (call.stat (codes "/")) ∷ event.call (call.stat (codes "/")) ∷ event.call
    (call.stat (codes "/")) ∷ event.call (call.stat (codes "/")) ∷
    event.call (call.stat (codes "/")) ∷ event.call (call.stat (codes "/")) ∷ event.call
    (call.stat (codes "/")) ∷ event.call (call.stat (codes "/")) ∷
    event.call (call.stat (codes "/")) ∷ event.call (call.stat (codes "/")) ∷ event.call
    (call.stat (codes "/")) ∷ event.call (call.stat (codes "/")) ∷
    event.call (call.stat (codes "/")) ∷ event.call (call.stat (codes "/")) ∷ event.call
    (call.stat (codes "/")) ∷ event.call (call.stat (codes "/")) ∷
    event.call (call.stat (codes "/")) ∷ event.call (call.stat (codes "/")) ∷ event.call
    (call.stat (codes "/")) ∷ event.call (call.stat (codes "/")) ∷
    event.call (call.stat (codes "/")) ∷ event.call (call.stat (codes "/")) ∷ event.call
    (call.stat (codes "/")) ∷ event.call (call.stat (codes "/")) ∷
    event.call (call.stat (codes "/")) ∷ event.call (call.stat (codes "/")) ∷ event.call
    (call.stat (codes "/")) ∷ event.call (call.stat (codes "/")) ∷
    event.call (call.stat (codes "/")) ∷ event.call (call.stat (codes "/")) ∷ event.call
    (call.stat (codes "/")) ∷ event.call (call.stat (codes "/")) ∷
    event.call (call.stat (codes "/")) ∷ event.call (call.stat (codes "/")) ∷ event.call
    (call.stat (codes "/")) ∷ event.call (call.stat (codes "/")) ∷
    event.call (call.stat (codes "/")) ∷ event.call (call.stat (codes "/")) ∷ event.call
    (call.stat (codes "/")) ∷ event.call (call.stat (codes "/")) ∷
    event.call (call.stat (codes "/")) ∷ event.call (call.stat (codes "/")) ∷ event.call
    (call.stat (codes "/")) ∷ event.call (call.stat (codes "/")) ∷
    event.call (call.stat (codes "/")) ∷ event.call (call.stat (codes "/")) ∷ event.call
    (call.stat (codes "/")) ∷ event.call (call.stat (codes "/")) ∷
    event.call (call.stat (codes "/")) ∷ event.call (call.stat (codes "/")) ∷ event.call
    (call.stat (codes "/")) ∷ event.read_pending 0 ∷
    event.take 0 ∷ event.read_pending 0 ∷ event.take 0 ∷ event.read_pending 0 ∷
    event.take 0 ∷ event.read_pending 0 ∷ event.take 0 ∷ event.read_pending 0 ∷
    event.take 0 ∷ event.read_pending 0 ∷ event.take 0 ∷ event.read_pending 0 ∷
    event.take 0 ∷ event.read_pending 0 ∷ event.take 0 ∷ event.read_pending 0 ∷
    event.take 0 ∷ event.read_pending 0 ∷ event.take 0 ∷ event.read_pending 0 ∷
    event.take 0 ∷ event.read_pending 0 ∷ event.take 0 ∷ event.read_pending 0 ∷
    event.take 0 ∷ event.read_pending 0 ∷ event.take 0 ∷ event.read_pending 0 ∷
    event.take 0 ∷ event.read_pending 0 ∷ event.take 0 ∷ event.read_pending 0 ∷
    event.take 0 ∷ event.read_pending 0 ∷ event.take 0 ∷ event.read_pending 0 ∷
    event.take 0 ∷ event.read_pending 0 ∷ event.take 0 ∷ event.read_pending 0 ∷
    event.take 0 ∷ event.read_pending 0 ∷ event.take 0 ∷ event.read_pending 0 ∷
    event.take 0 ∷ event.read_pending 0 ∷ event.take 0 ∷ event.read_pending 0 ∷
    event.take 0 ∷ event.read_pending 0 ∷ event.take 0 ∷ event.read_pending 0 ∷
    event.take 0 ∷ event.read_pending 0 ∷ event.take 0 ∷ event.read_pending 0 ∷
    event.take 0 ∷ event.read_pending 0 ∷ event.take 0 ∷ event.read_pending 0 ∷
    event.take 0 ∷ event.read_pending 0 ∷ event.take 0 ∷ event.read_pending 0 ∷
    event.take 0 ∷ event.read_pending 0 ∷ event.take 0 ∷ event.read_pending 0 ∷
    event.take 0 ∷ event.read_pending 0 ∷ event.take 0 ∷ event.read_pending 0 ∷
    event.take 0 ∷ event.read_pending 0 ∷ event.take 0 ∷ event.read_pending 0 ∷
    event.take 0 ∷ event.read_pending 0 ∷ event.take 0 ∷ event.read_pending 0 ∷
    event.take 0 ∷ event.read_pending 0 ∷ event.take 0 ∷ event.read_pending 0 ∷
    event.take 0 ∷ event.read_pending 0 ∷ event.take 0 ∷ event.read_pending 0 ∷
    event.take 0 ∷ event.read_pending 0 ∷ event.take 0 ∷ event.read_pending 0 ∷
    event.take 0 ∷ event.read_pending 0 ∷ event.take 0 ∷ event.read_pending 0 ∷
    event.take 0 ∷ event.read_pending 0 ∷ event.take 0 ∷ event.read_pending 0 ∷
    event.take 0 ∷ event.read_pending 0 ∷ event.take 0 ∷ event.read_pending 0 ∷
    event.take 0 ∷ event.read_pending 0 ∷ event.take 0 ∷ event.read_pending 0 ∷
    event.take 0 ∷ event.read_pending 0 ∷ event.take 0 ∷ event.read_pending 0 ∷
    event.take 0 ∷ event.read_pending 0 ∷ event.take 0 ∷ event.read_pending 0 ∷
    event.take 0 ∷ event.read_pending 0 ∷ event.take 0 ∷ event.read_pending 0 ∷
    event.take 0 ∷ event.read_pending 0 ∷ event.take 0 ∷ event.read_pending 0 ∷
    event.take 0 ∷ event.read_pending 0 ∷ event.take 0 ∷ event.perform 130 ∷
    event.write 0 ∷ event.settle 0 ∷ event.perform 128 ∷ event.write 0 ∷
    event.settle 0 ∷ event.perform 126 ∷ event.write 0 ∷ event.settle 0 ∷
    event.perform 124 ∷ event.write 0 ∷ event.settle 0 ∷ event.perform 122 ∷
    event.write 0 ∷ event.settle 0 ∷ event.perform 120 ∷ event.write 0 ∷
    event.settle 0 ∷ event.perform 118 ∷ event.write 0 ∷ event.settle 0 ∷
    event.perform 116 ∷ event.write 0 ∷ event.settle 0 ∷ event.perform 114 ∷
    event.write 0 ∷ event.settle 0 ∷ event.perform 112 ∷ event.write 0 ∷
    event.settle 0 ∷ event.perform 110 ∷ event.write 0 ∷ event.settle 0 ∷
    event.perform 108 ∷ event.write 0 ∷ event.settle 0 ∷ event.perform 106 ∷
    event.write 0 ∷ event.settle 0 ∷ event.perform 104 ∷ event.write 0 ∷
    event.settle 0 ∷ event.perform 102 ∷ event.write 0 ∷ event.settle 0 ∷
    event.perform 100 ∷ event.write 0 ∷ event.settle 0 ∷ event.perform 98 ∷
    event.write 0 ∷ event.settle 0 ∷ event.perform 96 ∷ event.write 0 ∷
    event.settle 0 ∷ event.perform 94 ∷ event.write 0 ∷ event.settle 0 ∷
    event.perform 92 ∷ event.write 0 ∷ event.settle 0 ∷ event.perform 90 ∷
    event.write 0 ∷ event.settle 0 ∷ event.perform 88 ∷ event.write 0 ∷
    event.settle 0 ∷ event.perform 86 ∷ event.write 0 ∷ event.settle 0 ∷
    event.perform 84 ∷ event.write 0 ∷ event.settle 0 ∷ event.perform 82 ∷
    event.write 0 ∷ event.settle 0 ∷ event.perform 80 ∷ event.write 0 ∷
    event.settle 0 ∷ event.perform 78 ∷ event.write 0 ∷ event.settle 0 ∷
    event.perform 76 ∷ event.write 0 ∷ event.settle 0 ∷ event.perform 74 ∷
    event.write 0 ∷ event.settle 0 ∷ event.perform 72 ∷ event.write 0 ∷
    event.settle 0 ∷ event.perform 70 ∷ event.write 0 ∷ event.settle 0 ∷
    event.perform 68 ∷ event.write 0 ∷ event.settle 0 ∷ event.perform 66 ∷
    event.write 0 ∷ event.settle 0 ∷ event.perform 64 ∷ event.write 0 ∷
    event.settle 0 ∷ event.perform 62 ∷ event.write 0 ∷ event.settle 0 ∷
    event.perform 60 ∷ event.write 0 ∷ event.settle 0 ∷ event.perform 58 ∷
    event.write 0 ∷ event.settle 0 ∷ event.perform 56 ∷ event.write 0 ∷
    event.settle 0 ∷ event.perform 54 ∷ event.write 0 ∷ event.settle 0 ∷
    event.perform 52 ∷ event.write 0 ∷ event.settle 0 ∷ event.perform 50 ∷
    event.write 0 ∷ event.settle 0 ∷ event.perform 48 ∷ event.write 0 ∷
    event.settle 0 ∷ event.perform 46 ∷ event.write 0 ∷ event.settle 0 ∷
    event.perform 44 ∷ event.write 0 ∷ event.settle 0 ∷ event.perform 42 ∷
    event.write 0 ∷ event.settle 0 ∷ event.perform 40 ∷ event.write 0 ∷
    event.settle 0 ∷ event.perform 38 ∷ event.write 0 ∷ event.settle 0 ∷
    event.perform 36 ∷ event.write 0 ∷ event.settle 0 ∷ event.perform 34 ∷
    event.write 0 ∷ event.settle 0 ∷ event.perform 32 ∷ event.write 0 ∷
    event.settle 0 ∷ event.perform 30 ∷ event.write 0 ∷ event.settle 0 ∷
    event.perform 28 ∷ event.write 0 ∷ event.settle 0 ∷ event.perform 26 ∷
    event.write 0 ∷ event.settle 0 ∷ event.perform 24 ∷ event.write 0 ∷
    event.settle 0 ∷ event.perform 22 ∷ event.write 0 ∷ event.settle 0 ∷
    event.perform 20 ∷ event.write 0 ∷ event.settle 0 ∷ event.perform 18 ∷
    event.write 0 ∷ event.settle 0 ∷ event.perform 16 ∷ event.write 0 ∷
    event.settle 0 ∷ event.perform 14 ∷ event.write 0 ∷ event.settle 0 ∷
    event.perform 12 ∷ event.write 0 ∷ event.settle 0 ∷ event.perform 10 ∷
    event.write 0 ∷ event.settle 0 ∷ event.perform 8 ∷ event.write 0 ∷
    event.settle 0 ∷ event.perform 6 ∷ event.write 0 ∷ event.settle 0 ∷
    event.perform 4 ∷ event.write 0 ∷ event.settle 0 ∷
    []

abbrev pub records_0 : List Record
records_0 =
    outcome event.mounted ∷ outcome (event.is_read 2) ∷ outcome (event.taken 2 word.Held) ∷ outcome
    (event.performed 2 0 false) ∷
    outcome (event.written 2 result.Accepted) ∷ outcome (event.settled 2 result.Accepted) ∷ outcome
    (event.begun 1) ∷ outcome (event.begun 2) ∷
    outcome (event.begun 3) ∷ outcome (event.begun 4) ∷ outcome (event.begun 5) ∷ outcome (event.begun 6) ∷
    outcome (event.begun 7) ∷ outcome (event.begun 8) ∷ outcome (event.begun 9) ∷ outcome (event.begun 10) ∷
    outcome (event.begun 11) ∷ outcome (event.begun 12) ∷ outcome (event.begun 13) ∷ outcome (event.begun 14) ∷
    outcome (event.begun 15) ∷ outcome (event.begun 16) ∷ outcome (event.begun 17) ∷ outcome (event.begun 18) ∷
    outcome (event.begun 19) ∷ outcome (event.begun 20) ∷ outcome (event.begun 21) ∷ outcome (event.begun 22) ∷
    outcome (event.begun 23) ∷ outcome (event.begun 24) ∷ outcome (event.begun 25) ∷ outcome (event.begun 26) ∷
    outcome (event.begun 27) ∷ outcome (event.begun 28) ∷ outcome (event.begun 29) ∷ outcome (event.begun 30) ∷
    outcome (event.begun 31) ∷ outcome (event.begun 32) ∷ outcome (event.begun 33) ∷ outcome (event.begun 34) ∷
    outcome (event.begun 35) ∷ outcome (event.begun 36) ∷ outcome (event.begun 37) ∷ outcome (event.begun 38) ∷
    outcome (event.begun 39) ∷ outcome (event.begun 40) ∷ outcome (event.begun 41) ∷ outcome (event.begun 42) ∷
    outcome (event.begun 43) ∷ outcome (event.begun 44) ∷ outcome (event.begun 45) ∷ outcome (event.begun 46) ∷
    outcome (event.begun 47) ∷ outcome (event.begun 48) ∷ outcome (event.begun 49) ∷ outcome (event.begun 50) ∷
    outcome (event.begun 51) ∷ outcome (event.begun 52) ∷ outcome (event.begun 53) ∷ outcome (event.begun 54) ∷
    outcome (event.begun 55) ∷ outcome (event.begun 56) ∷ outcome (event.begun 57) ∷ outcome (event.begun 58) ∷
    outcome (event.begun 59) ∷ outcome (event.begun 60) ∷ outcome (event.begun 61) ∷ outcome (event.begun 62) ∷
    outcome (event.begun 63) ∷ outcome (event.begun 64) ∷ refused refusal.Full ∷ outcome (event.is_read 4) ∷
    outcome (event.taken 4 word.Held) ∷ outcome (event.is_read 6) ∷ outcome (event.taken 6 word.Held) ∷ outcome
    (event.is_read 8) ∷
    outcome (event.taken 8 word.Held) ∷ outcome (event.is_read 10) ∷ outcome (event.taken 10 word.Held) ∷ outcome
    (event.is_read 12) ∷
    outcome (event.taken 12 word.Held) ∷ outcome (event.is_read 14) ∷ outcome (event.taken 14 word.Held) ∷ outcome
    (event.is_read 16) ∷
    outcome (event.taken 16 word.Held) ∷ outcome (event.is_read 18) ∷ outcome (event.taken 18 word.Held) ∷ outcome
    (event.is_read 20) ∷
    outcome (event.taken 20 word.Held) ∷ outcome (event.is_read 22) ∷ outcome (event.taken 22 word.Held) ∷ outcome
    (event.is_read 24) ∷
    outcome (event.taken 24 word.Held) ∷ outcome (event.is_read 26) ∷ outcome (event.taken 26 word.Held) ∷ outcome
    (event.is_read 28) ∷
    outcome (event.taken 28 word.Held) ∷ outcome (event.is_read 30) ∷ outcome (event.taken 30 word.Held) ∷ outcome
    (event.is_read 32) ∷
    outcome (event.taken 32 word.Held) ∷ outcome (event.is_read 34) ∷ outcome (event.taken 34 word.Held) ∷ outcome
    (event.is_read 36) ∷
    outcome (event.taken 36 word.Held) ∷ outcome (event.is_read 38) ∷ outcome (event.taken 38 word.Held) ∷ outcome
    (event.is_read 40) ∷
    outcome (event.taken 40 word.Held) ∷ outcome (event.is_read 42) ∷ outcome (event.taken 42 word.Held) ∷ outcome
    (event.is_read 44) ∷
    outcome (event.taken 44 word.Held) ∷ outcome (event.is_read 46) ∷ outcome (event.taken 46 word.Held) ∷ outcome
    (event.is_read 48) ∷
    outcome (event.taken 48 word.Held) ∷ outcome (event.is_read 50) ∷ outcome (event.taken 50 word.Held) ∷ outcome
    (event.is_read 52) ∷
    outcome (event.taken 52 word.Held) ∷ outcome (event.is_read 54) ∷ outcome (event.taken 54 word.Held) ∷ outcome
    (event.is_read 56) ∷
    outcome (event.taken 56 word.Held) ∷ outcome (event.is_read 58) ∷ outcome (event.taken 58 word.Held) ∷ outcome
    (event.is_read 60) ∷
    outcome (event.taken 60 word.Held) ∷ outcome (event.is_read 62) ∷ outcome (event.taken 62 word.Held) ∷ outcome
    (event.is_read 64) ∷
    outcome (event.taken 64 word.Held) ∷ outcome (event.is_read 66) ∷ outcome (event.taken 66 word.Held) ∷ outcome
    (event.is_read 68) ∷
    outcome (event.taken 68 word.Held) ∷ outcome (event.is_read 70) ∷ outcome (event.taken 70 word.Held) ∷ outcome
    (event.is_read 72) ∷
    outcome (event.taken 72 word.Held) ∷ outcome (event.is_read 74) ∷ outcome (event.taken 74 word.Held) ∷ outcome
    (event.is_read 76) ∷
    outcome (event.taken 76 word.Held) ∷ outcome (event.is_read 78) ∷ outcome (event.taken 78 word.Held) ∷ outcome
    (event.is_read 80) ∷
    outcome (event.taken 80 word.Held) ∷ outcome (event.is_read 82) ∷ outcome (event.taken 82 word.Held) ∷ outcome
    (event.is_read 84) ∷
    outcome (event.taken 84 word.Held) ∷ outcome (event.is_read 86) ∷ outcome (event.taken 86 word.Held) ∷ outcome
    (event.is_read 88) ∷
    outcome (event.taken 88 word.Held) ∷ outcome (event.is_read 90) ∷ outcome (event.taken 90 word.Held) ∷ outcome
    (event.is_read 92) ∷
    outcome (event.taken 92 word.Held) ∷ outcome (event.is_read 94) ∷ outcome (event.taken 94 word.Held) ∷ outcome
    (event.is_read 96) ∷
    outcome (event.taken 96 word.Held) ∷ outcome (event.is_read 98) ∷ outcome (event.taken 98 word.Held) ∷ outcome
    (event.is_read 100) ∷
    outcome (event.taken 100 word.Held) ∷ outcome (event.is_read 102) ∷ outcome (event.taken 102 word.Held) ∷ outcome
    (event.is_read 104) ∷
    outcome (event.taken 104 word.Held) ∷ outcome (event.is_read 106) ∷ outcome (event.taken 106 word.Held) ∷ outcome
    (event.is_read 108) ∷
    outcome (event.taken 108 word.Held) ∷ outcome (event.is_read 110) ∷ outcome (event.taken 110 word.Held) ∷ outcome
    (event.is_read 112) ∷
    outcome (event.taken 112 word.Held) ∷ outcome (event.is_read 114) ∷ outcome (event.taken 114 word.Held) ∷ outcome
    (event.is_read 116) ∷
    outcome (event.taken 116 word.Held) ∷ outcome (event.is_read 118) ∷ outcome (event.taken 118 word.Held) ∷ outcome
    (event.is_read 120) ∷
    outcome (event.taken 120 word.Held) ∷ outcome (event.is_read 122) ∷ outcome (event.taken 122 word.Held) ∷ outcome
    (event.is_read 124) ∷
    outcome (event.taken 124 word.Held) ∷ outcome (event.is_read 126) ∷ outcome (event.taken 126 word.Held) ∷ outcome
    (event.is_read 128) ∷
    outcome (event.taken 128 word.Held) ∷ outcome (event.is_read 130) ∷ outcome (event.taken 130 word.Held) ∷ outcome
    (event.performed 130 0 false) ∷
    outcome (event.written 130 result.Accepted) ∷ answered 64
    (answer.attributes (record { kind = kind.Directory; ino = 1; size = 0; nlink = 1 })) ∷ outcome
    (event.settled 130 result.Accepted) ∷ outcome (event.performed 128 0 false) ∷
    outcome (event.written 128 result.Accepted) ∷ answered 63
    (answer.attributes (record { kind = kind.Directory; ino = 1; size = 0; nlink = 1 })) ∷ outcome
    (event.settled 128 result.Accepted) ∷ outcome (event.performed 126 0 false) ∷
    outcome (event.written 126 result.Accepted) ∷ answered 62
    (answer.attributes (record { kind = kind.Directory; ino = 1; size = 0; nlink = 1 })) ∷ outcome
    (event.settled 126 result.Accepted) ∷ outcome (event.performed 124 0 false) ∷
    outcome (event.written 124 result.Accepted) ∷ answered 61
    (answer.attributes (record { kind = kind.Directory; ino = 1; size = 0; nlink = 1 })) ∷ outcome
    (event.settled 124 result.Accepted) ∷ outcome (event.performed 122 0 false) ∷
    outcome (event.written 122 result.Accepted) ∷ answered 60
    (answer.attributes (record { kind = kind.Directory; ino = 1; size = 0; nlink = 1 })) ∷ outcome
    (event.settled 122 result.Accepted) ∷ outcome (event.performed 120 0 false) ∷
    outcome (event.written 120 result.Accepted) ∷ answered 59
    (answer.attributes (record { kind = kind.Directory; ino = 1; size = 0; nlink = 1 })) ∷ outcome
    (event.settled 120 result.Accepted) ∷ outcome (event.performed 118 0 false) ∷
    outcome (event.written 118 result.Accepted) ∷ answered 58
    (answer.attributes (record { kind = kind.Directory; ino = 1; size = 0; nlink = 1 })) ∷ outcome
    (event.settled 118 result.Accepted) ∷ outcome (event.performed 116 0 false) ∷
    outcome (event.written 116 result.Accepted) ∷ answered 57
    (answer.attributes (record { kind = kind.Directory; ino = 1; size = 0; nlink = 1 })) ∷ outcome
    (event.settled 116 result.Accepted) ∷ outcome (event.performed 114 0 false) ∷
    outcome (event.written 114 result.Accepted) ∷ answered 56
    (answer.attributes (record { kind = kind.Directory; ino = 1; size = 0; nlink = 1 })) ∷ outcome
    (event.settled 114 result.Accepted) ∷ outcome (event.performed 112 0 false) ∷
    outcome (event.written 112 result.Accepted) ∷ answered 55
    (answer.attributes (record { kind = kind.Directory; ino = 1; size = 0; nlink = 1 })) ∷ outcome
    (event.settled 112 result.Accepted) ∷ outcome (event.performed 110 0 false) ∷
    outcome (event.written 110 result.Accepted) ∷ answered 54
    (answer.attributes (record { kind = kind.Directory; ino = 1; size = 0; nlink = 1 })) ∷ outcome
    (event.settled 110 result.Accepted) ∷ outcome (event.performed 108 0 false) ∷
    outcome (event.written 108 result.Accepted) ∷ answered 53
    (answer.attributes (record { kind = kind.Directory; ino = 1; size = 0; nlink = 1 })) ∷ outcome
    (event.settled 108 result.Accepted) ∷ outcome (event.performed 106 0 false) ∷
    outcome (event.written 106 result.Accepted) ∷ answered 52
    (answer.attributes (record { kind = kind.Directory; ino = 1; size = 0; nlink = 1 })) ∷ outcome
    (event.settled 106 result.Accepted) ∷ outcome (event.performed 104 0 false) ∷
    outcome (event.written 104 result.Accepted) ∷ answered 51
    (answer.attributes (record { kind = kind.Directory; ino = 1; size = 0; nlink = 1 })) ∷ outcome
    (event.settled 104 result.Accepted) ∷ outcome (event.performed 102 0 false) ∷
    outcome (event.written 102 result.Accepted) ∷ answered 50
    (answer.attributes (record { kind = kind.Directory; ino = 1; size = 0; nlink = 1 })) ∷ outcome
    (event.settled 102 result.Accepted) ∷ outcome (event.performed 100 0 false) ∷
    outcome (event.written 100 result.Accepted) ∷ answered 49
    (answer.attributes (record { kind = kind.Directory; ino = 1; size = 0; nlink = 1 })) ∷ outcome
    (event.settled 100 result.Accepted) ∷ outcome (event.performed 98 0 false) ∷
    outcome (event.written 98 result.Accepted) ∷ answered 48
    (answer.attributes (record { kind = kind.Directory; ino = 1; size = 0; nlink = 1 })) ∷ outcome
    (event.settled 98 result.Accepted) ∷ outcome (event.performed 96 0 false) ∷
    outcome (event.written 96 result.Accepted) ∷ answered 47
    (answer.attributes (record { kind = kind.Directory; ino = 1; size = 0; nlink = 1 })) ∷ outcome
    (event.settled 96 result.Accepted) ∷ outcome (event.performed 94 0 false) ∷
    outcome (event.written 94 result.Accepted) ∷ answered 46
    (answer.attributes (record { kind = kind.Directory; ino = 1; size = 0; nlink = 1 })) ∷ outcome
    (event.settled 94 result.Accepted) ∷ outcome (event.performed 92 0 false) ∷
    outcome (event.written 92 result.Accepted) ∷ answered 45
    (answer.attributes (record { kind = kind.Directory; ino = 1; size = 0; nlink = 1 })) ∷ outcome
    (event.settled 92 result.Accepted) ∷ outcome (event.performed 90 0 false) ∷
    outcome (event.written 90 result.Accepted) ∷ answered 44
    (answer.attributes (record { kind = kind.Directory; ino = 1; size = 0; nlink = 1 })) ∷ outcome
    (event.settled 90 result.Accepted) ∷ outcome (event.performed 88 0 false) ∷
    outcome (event.written 88 result.Accepted) ∷ answered 43
    (answer.attributes (record { kind = kind.Directory; ino = 1; size = 0; nlink = 1 })) ∷ outcome
    (event.settled 88 result.Accepted) ∷ outcome (event.performed 86 0 false) ∷
    outcome (event.written 86 result.Accepted) ∷ answered 42
    (answer.attributes (record { kind = kind.Directory; ino = 1; size = 0; nlink = 1 })) ∷ outcome
    (event.settled 86 result.Accepted) ∷ outcome (event.performed 84 0 false) ∷
    outcome (event.written 84 result.Accepted) ∷ answered 41
    (answer.attributes (record { kind = kind.Directory; ino = 1; size = 0; nlink = 1 })) ∷ outcome
    (event.settled 84 result.Accepted) ∷ outcome (event.performed 82 0 false) ∷
    outcome (event.written 82 result.Accepted) ∷ answered 40
    (answer.attributes (record { kind = kind.Directory; ino = 1; size = 0; nlink = 1 })) ∷ outcome
    (event.settled 82 result.Accepted) ∷ outcome (event.performed 80 0 false) ∷
    outcome (event.written 80 result.Accepted) ∷ answered 39
    (answer.attributes (record { kind = kind.Directory; ino = 1; size = 0; nlink = 1 })) ∷ outcome
    (event.settled 80 result.Accepted) ∷ outcome (event.performed 78 0 false) ∷
    outcome (event.written 78 result.Accepted) ∷ answered 38
    (answer.attributes (record { kind = kind.Directory; ino = 1; size = 0; nlink = 1 })) ∷ outcome
    (event.settled 78 result.Accepted) ∷ outcome (event.performed 76 0 false) ∷
    outcome (event.written 76 result.Accepted) ∷ answered 37
    (answer.attributes (record { kind = kind.Directory; ino = 1; size = 0; nlink = 1 })) ∷ outcome
    (event.settled 76 result.Accepted) ∷ outcome (event.performed 74 0 false) ∷
    outcome (event.written 74 result.Accepted) ∷ answered 36
    (answer.attributes (record { kind = kind.Directory; ino = 1; size = 0; nlink = 1 })) ∷ outcome
    (event.settled 74 result.Accepted) ∷ outcome (event.performed 72 0 false) ∷
    outcome (event.written 72 result.Accepted) ∷ answered 35
    (answer.attributes (record { kind = kind.Directory; ino = 1; size = 0; nlink = 1 })) ∷ outcome
    (event.settled 72 result.Accepted) ∷ outcome (event.performed 70 0 false) ∷
    outcome (event.written 70 result.Accepted) ∷ answered 34
    (answer.attributes (record { kind = kind.Directory; ino = 1; size = 0; nlink = 1 })) ∷ outcome
    (event.settled 70 result.Accepted) ∷ outcome (event.performed 68 0 false) ∷
    outcome (event.written 68 result.Accepted) ∷ answered 33
    (answer.attributes (record { kind = kind.Directory; ino = 1; size = 0; nlink = 1 })) ∷ outcome
    (event.settled 68 result.Accepted) ∷ outcome (event.performed 66 0 false) ∷
    outcome (event.written 66 result.Accepted) ∷ answered 32
    (answer.attributes (record { kind = kind.Directory; ino = 1; size = 0; nlink = 1 })) ∷ outcome
    (event.settled 66 result.Accepted) ∷ outcome (event.performed 64 0 false) ∷
    outcome (event.written 64 result.Accepted) ∷ answered 31
    (answer.attributes (record { kind = kind.Directory; ino = 1; size = 0; nlink = 1 })) ∷ outcome
    (event.settled 64 result.Accepted) ∷ outcome (event.performed 62 0 false) ∷
    outcome (event.written 62 result.Accepted) ∷ answered 30
    (answer.attributes (record { kind = kind.Directory; ino = 1; size = 0; nlink = 1 })) ∷ outcome
    (event.settled 62 result.Accepted) ∷ outcome (event.performed 60 0 false) ∷
    outcome (event.written 60 result.Accepted) ∷ answered 29
    (answer.attributes (record { kind = kind.Directory; ino = 1; size = 0; nlink = 1 })) ∷ outcome
    (event.settled 60 result.Accepted) ∷ outcome (event.performed 58 0 false) ∷
    outcome (event.written 58 result.Accepted) ∷ answered 28
    (answer.attributes (record { kind = kind.Directory; ino = 1; size = 0; nlink = 1 })) ∷ outcome
    (event.settled 58 result.Accepted) ∷ outcome (event.performed 56 0 false) ∷
    outcome (event.written 56 result.Accepted) ∷ answered 27
    (answer.attributes (record { kind = kind.Directory; ino = 1; size = 0; nlink = 1 })) ∷ outcome
    (event.settled 56 result.Accepted) ∷ outcome (event.performed 54 0 false) ∷
    outcome (event.written 54 result.Accepted) ∷ answered 26
    (answer.attributes (record { kind = kind.Directory; ino = 1; size = 0; nlink = 1 })) ∷ outcome
    (event.settled 54 result.Accepted) ∷ outcome (event.performed 52 0 false) ∷
    outcome (event.written 52 result.Accepted) ∷ answered 25
    (answer.attributes (record { kind = kind.Directory; ino = 1; size = 0; nlink = 1 })) ∷ outcome
    (event.settled 52 result.Accepted) ∷ outcome (event.performed 50 0 false) ∷
    outcome (event.written 50 result.Accepted) ∷ answered 24
    (answer.attributes (record { kind = kind.Directory; ino = 1; size = 0; nlink = 1 })) ∷ outcome
    (event.settled 50 result.Accepted) ∷ outcome (event.performed 48 0 false) ∷
    outcome (event.written 48 result.Accepted) ∷ answered 23
    (answer.attributes (record { kind = kind.Directory; ino = 1; size = 0; nlink = 1 })) ∷ outcome
    (event.settled 48 result.Accepted) ∷ outcome (event.performed 46 0 false) ∷
    outcome (event.written 46 result.Accepted) ∷ answered 22
    (answer.attributes (record { kind = kind.Directory; ino = 1; size = 0; nlink = 1 })) ∷ outcome
    (event.settled 46 result.Accepted) ∷ outcome (event.performed 44 0 false) ∷
    outcome (event.written 44 result.Accepted) ∷ answered 21
    (answer.attributes (record { kind = kind.Directory; ino = 1; size = 0; nlink = 1 })) ∷ outcome
    (event.settled 44 result.Accepted) ∷ outcome (event.performed 42 0 false) ∷
    outcome (event.written 42 result.Accepted) ∷ answered 20
    (answer.attributes (record { kind = kind.Directory; ino = 1; size = 0; nlink = 1 })) ∷ outcome
    (event.settled 42 result.Accepted) ∷ outcome (event.performed 40 0 false) ∷
    outcome (event.written 40 result.Accepted) ∷ answered 19
    (answer.attributes (record { kind = kind.Directory; ino = 1; size = 0; nlink = 1 })) ∷ outcome
    (event.settled 40 result.Accepted) ∷ outcome (event.performed 38 0 false) ∷
    outcome (event.written 38 result.Accepted) ∷ answered 18
    (answer.attributes (record { kind = kind.Directory; ino = 1; size = 0; nlink = 1 })) ∷ outcome
    (event.settled 38 result.Accepted) ∷ outcome (event.performed 36 0 false) ∷
    outcome (event.written 36 result.Accepted) ∷ answered 17
    (answer.attributes (record { kind = kind.Directory; ino = 1; size = 0; nlink = 1 })) ∷ outcome
    (event.settled 36 result.Accepted) ∷ outcome (event.performed 34 0 false) ∷
    outcome (event.written 34 result.Accepted) ∷ answered 16
    (answer.attributes (record { kind = kind.Directory; ino = 1; size = 0; nlink = 1 })) ∷ outcome
    (event.settled 34 result.Accepted) ∷ outcome (event.performed 32 0 false) ∷
    outcome (event.written 32 result.Accepted) ∷ answered 15
    (answer.attributes (record { kind = kind.Directory; ino = 1; size = 0; nlink = 1 })) ∷ outcome
    (event.settled 32 result.Accepted) ∷ outcome (event.performed 30 0 false) ∷
    outcome (event.written 30 result.Accepted) ∷ answered 14
    (answer.attributes (record { kind = kind.Directory; ino = 1; size = 0; nlink = 1 })) ∷ outcome
    (event.settled 30 result.Accepted) ∷ outcome (event.performed 28 0 false) ∷
    outcome (event.written 28 result.Accepted) ∷ answered 13
    (answer.attributes (record { kind = kind.Directory; ino = 1; size = 0; nlink = 1 })) ∷ outcome
    (event.settled 28 result.Accepted) ∷ outcome (event.performed 26 0 false) ∷
    outcome (event.written 26 result.Accepted) ∷ answered 12
    (answer.attributes (record { kind = kind.Directory; ino = 1; size = 0; nlink = 1 })) ∷ outcome
    (event.settled 26 result.Accepted) ∷ outcome (event.performed 24 0 false) ∷
    outcome (event.written 24 result.Accepted) ∷ answered 11
    (answer.attributes (record { kind = kind.Directory; ino = 1; size = 0; nlink = 1 })) ∷ outcome
    (event.settled 24 result.Accepted) ∷ outcome (event.performed 22 0 false) ∷
    outcome (event.written 22 result.Accepted) ∷ answered 10
    (answer.attributes (record { kind = kind.Directory; ino = 1; size = 0; nlink = 1 })) ∷ outcome
    (event.settled 22 result.Accepted) ∷ outcome (event.performed 20 0 false) ∷
    outcome (event.written 20 result.Accepted) ∷ answered 9
    (answer.attributes (record { kind = kind.Directory; ino = 1; size = 0; nlink = 1 })) ∷ outcome
    (event.settled 20 result.Accepted) ∷ outcome (event.performed 18 0 false) ∷
    outcome (event.written 18 result.Accepted) ∷ answered 8
    (answer.attributes (record { kind = kind.Directory; ino = 1; size = 0; nlink = 1 })) ∷ outcome
    (event.settled 18 result.Accepted) ∷ outcome (event.performed 16 0 false) ∷
    outcome (event.written 16 result.Accepted) ∷ answered 7
    (answer.attributes (record { kind = kind.Directory; ino = 1; size = 0; nlink = 1 })) ∷ outcome
    (event.settled 16 result.Accepted) ∷ outcome (event.performed 14 0 false) ∷
    outcome (event.written 14 result.Accepted) ∷ answered 6
    (answer.attributes (record { kind = kind.Directory; ino = 1; size = 0; nlink = 1 })) ∷ outcome
    (event.settled 14 result.Accepted) ∷ outcome (event.performed 12 0 false) ∷
    outcome (event.written 12 result.Accepted) ∷ answered 5
    (answer.attributes (record { kind = kind.Directory; ino = 1; size = 0; nlink = 1 })) ∷ outcome
    (event.settled 12 result.Accepted) ∷ outcome (event.performed 10 0 false) ∷
    outcome (event.written 10 result.Accepted) ∷ answered 4
    (answer.attributes (record { kind = kind.Directory; ino = 1; size = 0; nlink = 1 })) ∷ outcome
    (event.settled 10 result.Accepted) ∷ outcome (event.performed 8 0 false) ∷
    outcome (event.written 8 result.Accepted) ∷ answered 3
    (answer.attributes (record { kind = kind.Directory; ino = 1; size = 0; nlink = 1 })) ∷ outcome
    (event.settled 8 result.Accepted) ∷ outcome (event.performed 6 0 false) ∷
    outcome (event.written 6 result.Accepted) ∷ answered 2
    (answer.attributes (record { kind = kind.Directory; ino = 1; size = 0; nlink = 1 })) ∷ outcome
    (event.settled 6 result.Accepted) ∷ outcome (event.performed 4 0 false) ∷
    outcome (event.written 4 result.Accepted) ∷ answered 1
    (answer.attributes (record { kind = kind.Directory; ino = 1; size = 0; nlink = 1 })) ∷ outcome
    (event.settled 4 result.Accepted) ∷
    []

abbrev pub worlds_0 : Both
worlds_0 = after_all start events_0

-- Both worlds record this.
abbrev pub IsComputed : Type 0
IsComputed = IsRecorded worlds_0 records_0
