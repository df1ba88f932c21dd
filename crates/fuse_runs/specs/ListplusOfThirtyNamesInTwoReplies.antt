-- A worked run: listplus of thirty names in two replies.
use Rattle.fuse_spec.specs.declared.Minor.TheVariants as minor
use Rattle.std.specs.Prelude.{List, [], ◌∷◌, codes, false}
use Rattle.fuse_spec.specs.World.Events.{Event}
use Rattle.fuse_spec.specs.World.Events as event
use Rattle.fuse_spec.specs.World.Records.{Record, outcome, answered}
use Rattle.fuse_runs.specs.LockStep.{Both, IsRecorded, after_all, start}
use Rattle.fuse_spec.specs.Calls.Calls as call
use Rattle.fuse_spec.specs.Calls.Answers as answer
use Rattle.fuse_spec.specs.declared.Taken.TheVariants as word
use Rattle.fuse_spec.specs.declared.WriteResult.TheVariants as result
use Rattle.fuse_spec.specs.declared.Kind.TheVariants as kind

-- The events of the run, what both worlds have to record of them, and both worlds after them.
abbrev pub events_0 : List Event
events_0 =
    event.mount 1000 0 minor.M31 ∷
    event.read_pending 0 ∷
    event.take 0 ∷
    event.perform 2 ∷
    event.write 0 ∷
    event.settle 0 ∷
    event.call (call.mkdir (codes "/d00")) ∷
    event.read_pending 0 ∷
    event.take 0 ∷
    event.perform 4 ∷
    event.write 0 ∷
    event.settle 0 ∷
    event.call (call.mkdir (codes "/d01")) ∷
    event.read_pending 0 ∷
    event.take 0 ∷
    event.perform 6 ∷
    event.write 0 ∷
    event.settle 0 ∷
    event.call (call.mkdir (codes "/d02")) ∷
    event.read_pending 0 ∷
    event.take 0 ∷
    event.perform 8 ∷
    event.write 0 ∷
    event.settle 0 ∷
    event.call (call.mkdir (codes "/d03")) ∷
    event.read_pending 0 ∷
    event.take 0 ∷
    event.perform 10 ∷
    event.write 0 ∷
    event.settle 0 ∷
    event.call (call.mkdir (codes "/d04")) ∷
    event.read_pending 0 ∷
    event.take 0 ∷
    event.perform 12 ∷
    event.write 0 ∷
    event.settle 0 ∷
    event.call (call.mkdir (codes "/d05")) ∷
    event.read_pending 0 ∷
    event.take 0 ∷
    event.perform 14 ∷
    event.write 0 ∷
    event.settle 0 ∷
    event.call (call.mkdir (codes "/d06")) ∷
    event.read_pending 0 ∷
    event.take 0 ∷
    event.perform 16 ∷
    event.write 0 ∷
    event.settle 0 ∷
    event.call (call.mkdir (codes "/d07")) ∷
    event.read_pending 0 ∷
    event.take 0 ∷
    event.perform 18 ∷
    event.write 0 ∷
    event.settle 0 ∷
    event.call (call.mkdir (codes "/d08")) ∷
    event.read_pending 0 ∷
    event.take 0 ∷
    event.perform 20 ∷
    event.write 0 ∷
    event.settle 0 ∷
    event.call (call.mkdir (codes "/d09")) ∷
    event.read_pending 0 ∷
    event.take 0 ∷
    event.perform 22 ∷
    event.write 0 ∷
    event.settle 0 ∷
    event.call (call.mkdir (codes "/d10")) ∷
    event.read_pending 0 ∷
    event.take 0 ∷
    event.perform 24 ∷
    event.write 0 ∷
    event.settle 0 ∷
    event.call (call.mkdir (codes "/d11")) ∷
    event.read_pending 0 ∷
    event.take 0 ∷
    event.perform 26 ∷
    event.write 0 ∷
    event.settle 0 ∷
    event.call (call.mkdir (codes "/d12")) ∷
    event.read_pending 0 ∷
    event.take 0 ∷
    event.perform 28 ∷
    event.write 0 ∷
    event.settle 0 ∷
    event.call (call.mkdir (codes "/d13")) ∷
    event.read_pending 0 ∷
    event.take 0 ∷
    event.perform 30 ∷
    event.write 0 ∷
    event.settle 0 ∷
    event.call (call.mkdir (codes "/d14")) ∷
    event.read_pending 0 ∷
    event.take 0 ∷
    event.perform 32 ∷
    event.write 0 ∷
    event.settle 0 ∷
    event.call (call.mkdir (codes "/d15")) ∷
    event.read_pending 0 ∷
    event.take 0 ∷
    event.perform 34 ∷
    event.write 0 ∷
    event.settle 0 ∷
    event.call (call.mkdir (codes "/d16")) ∷
    event.read_pending 0 ∷
    event.take 0 ∷
    event.perform 36 ∷
    event.write 0 ∷
    event.settle 0 ∷
    event.call (call.mkdir (codes "/d17")) ∷
    event.read_pending 0 ∷
    event.take 0 ∷
    event.perform 38 ∷
    event.write 0 ∷
    event.settle 0 ∷
    event.call (call.mkdir (codes "/d18")) ∷
    event.read_pending 0 ∷
    event.take 0 ∷
    event.perform 40 ∷
    event.write 0 ∷
    event.settle 0 ∷
    event.call (call.mkdir (codes "/d19")) ∷
    event.read_pending 0 ∷
    event.take 0 ∷
    event.perform 42 ∷
    event.write 0 ∷
    event.settle 0 ∷
    event.call (call.mkdir (codes "/d20")) ∷
    event.read_pending 0 ∷
    event.take 0 ∷
    event.perform 44 ∷
    event.write 0 ∷
    event.settle 0 ∷
    event.call (call.mkdir (codes "/d21")) ∷
    event.read_pending 0 ∷
    event.take 0 ∷
    event.perform 46 ∷
    event.write 0 ∷
    event.settle 0 ∷
    event.call (call.mkdir (codes "/d22")) ∷
    event.read_pending 0 ∷
    event.take 0 ∷
    event.perform 48 ∷
    event.write 0 ∷
    event.settle 0 ∷
    event.call (call.mkdir (codes "/d23")) ∷
    event.read_pending 0 ∷
    event.take 0 ∷
    event.perform 50 ∷
    event.write 0 ∷
    event.settle 0 ∷
    event.call (call.mkdir (codes "/d24")) ∷
    event.read_pending 0 ∷
    event.take 0 ∷
    event.perform 52 ∷
    event.write 0 ∷
    event.settle 0 ∷
    event.call (call.mkdir (codes "/d25")) ∷
    event.read_pending 0 ∷
    event.take 0 ∷
    event.perform 54 ∷
    event.write 0 ∷
    event.settle 0 ∷
    event.call (call.mkdir (codes "/d26")) ∷
    event.read_pending 0 ∷
    event.take 0 ∷
    event.perform 56 ∷
    event.write 0 ∷
    event.settle 0 ∷
    event.call (call.mkdir (codes "/d27")) ∷
    event.read_pending 0 ∷
    event.take 0 ∷
    event.perform 58 ∷
    event.write 0 ∷
    event.settle 0 ∷
    event.call (call.mkdir (codes "/d28")) ∷
    event.read_pending 0 ∷
    event.take 0 ∷
    event.perform 60 ∷
    event.write 0 ∷
    event.settle 0 ∷
    event.call (call.mkdir (codes "/d29")) ∷
    event.read_pending 0 ∷
    event.take 0 ∷
    event.perform 62 ∷
    event.write 0 ∷
    event.settle 0 ∷
    event.call (call.listplus (codes "/") 0) ∷
    event.read_pending 0 ∷
    event.take 0 ∷
    event.perform 64 ∷
    event.write 0 ∷
    event.settle 0 ∷
    event.call (call.listplus (codes "/") 25) ∷
    event.read_pending 0 ∷
    event.take 0 ∷
    event.perform 66 ∷
    event.write 0 ∷
    event.settle 0 ∷
    event.call (call.listplus (codes "/") 30) ∷
    event.read_pending 0 ∷
    event.take 0 ∷
    event.perform 68 ∷
    event.write 0 ∷
    event.settle 0 ∷
    []

abbrev pub records_0 : List Record
records_0 =
    outcome event.mounted ∷
    outcome (event.is_read 2) ∷
    outcome (event.taken 2 word.Held) ∷
    outcome (event.performed 2 0 false) ∷
    outcome (event.written 2 result.Accepted) ∷
    outcome (event.settled 2 result.Accepted) ∷
    outcome (event.begun 1) ∷
    outcome (event.is_read 4) ∷
    outcome (event.taken 4 word.Held) ∷
    outcome (event.performed 4 0 false) ∷
    outcome (event.written 4 result.Accepted) ∷
    answered 1 answer.done ∷
    outcome (event.settled 4 result.Accepted) ∷
    outcome (event.begun 2) ∷
    outcome (event.is_read 6) ∷
    outcome (event.taken 6 word.Held) ∷
    outcome (event.performed 6 0 false) ∷
    outcome (event.written 6 result.Accepted) ∷
    answered 2 answer.done ∷
    outcome (event.settled 6 result.Accepted) ∷
    outcome (event.begun 3) ∷
    outcome (event.is_read 8) ∷
    outcome (event.taken 8 word.Held) ∷
    outcome (event.performed 8 0 false) ∷
    outcome (event.written 8 result.Accepted) ∷
    answered 3 answer.done ∷
    outcome (event.settled 8 result.Accepted) ∷
    outcome (event.begun 4) ∷
    outcome (event.is_read 10) ∷
    outcome (event.taken 10 word.Held) ∷
    outcome (event.performed 10 0 false) ∷
    outcome (event.written 10 result.Accepted) ∷
    answered 4 answer.done ∷
    outcome (event.settled 10 result.Accepted) ∷
    outcome (event.begun 5) ∷
    outcome (event.is_read 12) ∷
    outcome (event.taken 12 word.Held) ∷
    outcome (event.performed 12 0 false) ∷
    outcome (event.written 12 result.Accepted) ∷
    answered 5 answer.done ∷
    outcome (event.settled 12 result.Accepted) ∷
    outcome (event.begun 6) ∷
    outcome (event.is_read 14) ∷
    outcome (event.taken 14 word.Held) ∷
    outcome (event.performed 14 0 false) ∷
    outcome (event.written 14 result.Accepted) ∷
    answered 6 answer.done ∷
    outcome (event.settled 14 result.Accepted) ∷
    outcome (event.begun 7) ∷
    outcome (event.is_read 16) ∷
    outcome (event.taken 16 word.Held) ∷
    outcome (event.performed 16 0 false) ∷
    outcome (event.written 16 result.Accepted) ∷
    answered 7 answer.done ∷
    outcome (event.settled 16 result.Accepted) ∷
    outcome (event.begun 8) ∷
    outcome (event.is_read 18) ∷
    outcome (event.taken 18 word.Held) ∷
    outcome (event.performed 18 0 false) ∷
    outcome (event.written 18 result.Accepted) ∷
    answered 8 answer.done ∷
    outcome (event.settled 18 result.Accepted) ∷
    outcome (event.begun 9) ∷
    outcome (event.is_read 20) ∷
    outcome (event.taken 20 word.Held) ∷
    outcome (event.performed 20 0 false) ∷
    outcome (event.written 20 result.Accepted) ∷
    answered 9 answer.done ∷
    outcome (event.settled 20 result.Accepted) ∷
    outcome (event.begun 10) ∷
    outcome (event.is_read 22) ∷
    outcome (event.taken 22 word.Held) ∷
    outcome (event.performed 22 0 false) ∷
    outcome (event.written 22 result.Accepted) ∷
    answered 10 answer.done ∷
    outcome (event.settled 22 result.Accepted) ∷
    outcome (event.begun 11) ∷
    outcome (event.is_read 24) ∷
    outcome (event.taken 24 word.Held) ∷
    outcome (event.performed 24 0 false) ∷
    outcome (event.written 24 result.Accepted) ∷
    answered 11 answer.done ∷
    outcome (event.settled 24 result.Accepted) ∷
    outcome (event.begun 12) ∷
    outcome (event.is_read 26) ∷
    outcome (event.taken 26 word.Held) ∷
    outcome (event.performed 26 0 false) ∷
    outcome (event.written 26 result.Accepted) ∷
    answered 12 answer.done ∷
    outcome (event.settled 26 result.Accepted) ∷
    outcome (event.begun 13) ∷
    outcome (event.is_read 28) ∷
    outcome (event.taken 28 word.Held) ∷
    outcome (event.performed 28 0 false) ∷
    outcome (event.written 28 result.Accepted) ∷
    answered 13 answer.done ∷
    outcome (event.settled 28 result.Accepted) ∷
    outcome (event.begun 14) ∷
    outcome (event.is_read 30) ∷
    outcome (event.taken 30 word.Held) ∷
    outcome (event.performed 30 0 false) ∷
    outcome (event.written 30 result.Accepted) ∷
    answered 14 answer.done ∷
    outcome (event.settled 30 result.Accepted) ∷
    outcome (event.begun 15) ∷
    outcome (event.is_read 32) ∷
    outcome (event.taken 32 word.Held) ∷
    outcome (event.performed 32 0 false) ∷
    outcome (event.written 32 result.Accepted) ∷
    answered 15 answer.done ∷
    outcome (event.settled 32 result.Accepted) ∷
    outcome (event.begun 16) ∷
    outcome (event.is_read 34) ∷
    outcome (event.taken 34 word.Held) ∷
    outcome (event.performed 34 0 false) ∷
    outcome (event.written 34 result.Accepted) ∷
    answered 16 answer.done ∷
    outcome (event.settled 34 result.Accepted) ∷
    outcome (event.begun 17) ∷
    outcome (event.is_read 36) ∷
    outcome (event.taken 36 word.Held) ∷
    outcome (event.performed 36 0 false) ∷
    outcome (event.written 36 result.Accepted) ∷
    answered 17 answer.done ∷
    outcome (event.settled 36 result.Accepted) ∷
    outcome (event.begun 18) ∷
    outcome (event.is_read 38) ∷
    outcome (event.taken 38 word.Held) ∷
    outcome (event.performed 38 0 false) ∷
    outcome (event.written 38 result.Accepted) ∷
    answered 18 answer.done ∷
    outcome (event.settled 38 result.Accepted) ∷
    outcome (event.begun 19) ∷
    outcome (event.is_read 40) ∷
    outcome (event.taken 40 word.Held) ∷
    outcome (event.performed 40 0 false) ∷
    outcome (event.written 40 result.Accepted) ∷
    answered 19 answer.done ∷
    outcome (event.settled 40 result.Accepted) ∷
    outcome (event.begun 20) ∷
    outcome (event.is_read 42) ∷
    outcome (event.taken 42 word.Held) ∷
    outcome (event.performed 42 0 false) ∷
    outcome (event.written 42 result.Accepted) ∷
    answered 20 answer.done ∷
    outcome (event.settled 42 result.Accepted) ∷
    outcome (event.begun 21) ∷
    outcome (event.is_read 44) ∷
    outcome (event.taken 44 word.Held) ∷
    outcome (event.performed 44 0 false) ∷
    outcome (event.written 44 result.Accepted) ∷
    answered 21 answer.done ∷
    outcome (event.settled 44 result.Accepted) ∷
    outcome (event.begun 22) ∷
    outcome (event.is_read 46) ∷
    outcome (event.taken 46 word.Held) ∷
    outcome (event.performed 46 0 false) ∷
    outcome (event.written 46 result.Accepted) ∷
    answered 22 answer.done ∷
    outcome (event.settled 46 result.Accepted) ∷
    outcome (event.begun 23) ∷
    outcome (event.is_read 48) ∷
    outcome (event.taken 48 word.Held) ∷
    outcome (event.performed 48 0 false) ∷
    outcome (event.written 48 result.Accepted) ∷
    answered 23 answer.done ∷
    outcome (event.settled 48 result.Accepted) ∷
    outcome (event.begun 24) ∷
    outcome (event.is_read 50) ∷
    outcome (event.taken 50 word.Held) ∷
    outcome (event.performed 50 0 false) ∷
    outcome (event.written 50 result.Accepted) ∷
    answered 24 answer.done ∷
    outcome (event.settled 50 result.Accepted) ∷
    outcome (event.begun 25) ∷
    outcome (event.is_read 52) ∷
    outcome (event.taken 52 word.Held) ∷
    outcome (event.performed 52 0 false) ∷
    outcome (event.written 52 result.Accepted) ∷
    answered 25 answer.done ∷
    outcome (event.settled 52 result.Accepted) ∷
    outcome (event.begun 26) ∷
    outcome (event.is_read 54) ∷
    outcome (event.taken 54 word.Held) ∷
    outcome (event.performed 54 0 false) ∷
    outcome (event.written 54 result.Accepted) ∷
    answered 26 answer.done ∷
    outcome (event.settled 54 result.Accepted) ∷
    outcome (event.begun 27) ∷
    outcome (event.is_read 56) ∷
    outcome (event.taken 56 word.Held) ∷
    outcome (event.performed 56 0 false) ∷
    outcome (event.written 56 result.Accepted) ∷
    answered 27 answer.done ∷
    outcome (event.settled 56 result.Accepted) ∷
    outcome (event.begun 28) ∷
    outcome (event.is_read 58) ∷
    outcome (event.taken 58 word.Held) ∷
    outcome (event.performed 58 0 false) ∷
    outcome (event.written 58 result.Accepted) ∷
    answered 28 answer.done ∷
    outcome (event.settled 58 result.Accepted) ∷
    outcome (event.begun 29) ∷
    outcome (event.is_read 60) ∷
    outcome (event.taken 60 word.Held) ∷
    outcome (event.performed 60 0 false) ∷
    outcome (event.written 60 result.Accepted) ∷
    answered 29 answer.done ∷
    outcome (event.settled 60 result.Accepted) ∷
    outcome (event.begun 30) ∷
    outcome (event.is_read 62) ∷
    outcome (event.taken 62 word.Held) ∷
    outcome (event.performed 62 0 false) ∷
    outcome (event.written 62 result.Accepted) ∷
    answered 30 answer.done ∷
    outcome (event.settled 62 result.Accepted) ∷
    outcome (event.begun 31) ∷
    outcome (event.is_read 64) ∷
    outcome (event.taken 64 word.Held) ∷
    outcome (event.performed 64 0 false) ∷
    outcome (event.written 64 result.Accepted) ∷
    answered 31 (answer.listing (record {
      ino = 2;
      offset = 1;
      kind = kind.Directory;
      name = codes "d00";
    } ∷ record {
      ino = 3;
      offset = 2;
      kind = kind.Directory;
      name =
          codes "d01";
    } ∷ record { ino = 4; offset = 3; kind = kind.Directory; name = codes "d02" } ∷ record {
      ino =
          5;
      offset = 4;
      kind = kind.Directory;
      name = codes "d03";
    } ∷ record {
      ino = 6;
      offset = 5;
      kind =
          kind.Directory;
      name = codes "d04";
    } ∷ record {
      ino = 7;
      offset = 6;
      kind = kind.Directory;
      name =
          codes "d05";
    } ∷ record { ino = 8; offset = 7; kind = kind.Directory; name = codes "d06" } ∷ record {
      ino =
          9;
      offset = 8;
      kind = kind.Directory;
      name = codes "d07";
    } ∷ record {
      ino = 10;
      offset = 9;
      kind =
          kind.Directory;
      name = codes "d08";
    } ∷ record {
      ino = 11;
      offset = 10;
      kind = kind.Directory;
      name =
          codes "d09";
    } ∷ record { ino = 12; offset = 11; kind = kind.Directory; name = codes "d10" } ∷ record {
      ino =
          13;
      offset = 12;
      kind = kind.Directory;
      name = codes "d11";
    } ∷ record {
      ino = 14;
      offset = 13;
      kind =
          kind.Directory;
      name = codes "d12";
    } ∷ record {
      ino = 15;
      offset = 14;
      kind = kind.Directory;
      name =
          codes "d13";
    } ∷ record { ino = 16; offset = 15; kind = kind.Directory; name = codes "d14" } ∷ record {
      ino =
          17;
      offset = 16;
      kind = kind.Directory;
      name = codes "d15";
    } ∷ record {
      ino = 18;
      offset = 17;
      kind =
          kind.Directory;
      name = codes "d16";
    } ∷ record {
      ino = 19;
      offset = 18;
      kind = kind.Directory;
      name =
          codes "d17";
    } ∷ record { ino = 20; offset = 19; kind = kind.Directory; name = codes "d18" } ∷ record {
      ino =
          21;
      offset = 20;
      kind = kind.Directory;
      name = codes "d19";
    } ∷ record {
      ino = 22;
      offset = 21;
      kind =
          kind.Directory;
      name = codes "d20";
    } ∷ record {
      ino = 23;
      offset = 22;
      kind = kind.Directory;
      name =
          codes "d21";
    } ∷ record { ino = 24; offset = 23; kind = kind.Directory; name = codes "d22" } ∷ record {
      ino =
          25;
      offset = 24;
      kind = kind.Directory;
      name = codes "d23";
    } ∷ record {
      ino = 26;
      offset = 25;
      kind =
          kind.Directory;
      name = codes "d24";
    } ∷ [])) ∷
    outcome (event.settled 64 result.Accepted) ∷
    outcome (event.begun 32) ∷
    outcome (event.is_read 66) ∷
    outcome (event.taken 66 word.Held) ∷
    outcome (event.performed 66 0 false) ∷
    outcome (event.written 66 result.Accepted) ∷
    answered 32 (answer.listing (record {
      ino = 27;
      offset = 26;
      kind = kind.Directory;
      name = codes "d25";
    } ∷ record {
      ino = 28;
      offset = 27;
      kind = kind.Directory;
      name =
          codes "d26";
    } ∷ record { ino = 29; offset = 28; kind = kind.Directory; name = codes "d27" } ∷ record {
      ino =
          30;
      offset = 29;
      kind = kind.Directory;
      name = codes "d28";
    } ∷ record {
      ino = 31;
      offset = 30;
      kind =
          kind.Directory;
      name = codes "d29";
    } ∷ [])) ∷
    outcome (event.settled 66 result.Accepted) ∷
    outcome (event.begun 33) ∷
    outcome (event.is_read 68) ∷
    outcome (event.taken 68 word.Held) ∷
    outcome (event.performed 68 0 false) ∷
    outcome (event.written 68 result.Accepted) ∷
    answered 33 (answer.listing ([])) ∷
    outcome (event.settled 68 result.Accepted) ∷
    []

abbrev pub worlds_0 : Both
worlds_0 = after_all start events_0

-- Both worlds record this.
abbrev pub IsComputed : Type 0
IsComputed = IsRecorded worlds_0 records_0
