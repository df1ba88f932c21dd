-- Worlds in which a law fails once one of its premises is left out.
use Rattle.std.specs.Prelude.{true, false, List, [], ◌∷◌}
use Rattle.fuse_spec.specs.declared.Minor.TheVariants.{M31}
use Rattle.fuse_spec.specs.declared.Phase.TheVariants.{Ready}
use Rattle.fuse_spec.specs.Calls.Answers.{failed as failed_with}
use Rattle.fuse_spec.specs.World.Events.{Event}
use Rattle.fuse_spec.specs.World.Events as event
use Rattle.fuse_spec.specs.Kernel.Messages.{asks, forget}
use Rattle.fuse_spec.specs.Files.Operations.{done, getattr, lookup}
use Rattle.fuse_spec.specs.World.Records.{Record, outcome, answered}
use Rattle.fuse_spec.specs.Values.Numbers.{counter_end}
use Rattle.fuse_spec.specs.Files.Trees.{a_directory}
use Rattle.fuse_spec.specs.Calls.Vfs.{doing}
use Rattle.fuse_spec.specs.World.Worlds.{World, first_world, after_tick}

-- A live mount with a FORGET on its way, of a node that the server does not hold.
abbrev pub with_a_stray_forget : World
with_a_stray_forget = record first_world {
  kernel =
      record first_world.kernel { phase = Ready; minor = M31; lists_files = true };
  requests =
      record { unique = 2; body = forget (2, 1) } ∷ [];
}

-- A live mount in which call 1 is unanswered, while an answer of it waits.
abbrev pub with_an_early_answer : World
with_an_early_answer =
    record first_world {
      kernel = record first_world.kernel {
        phase = Ready;
        vfs = record first_world.kernel.vfs {
          calls = (1, doing (getattr 1)) ∷ [];
          answers = (1, failed_with 5) ∷ [];
          next_call = 2;
        };
      };
    }

-- The answer is collected as time passes, and the call is answered once more by an abort.
abbrev pub answered_twice : List Record
answered_twice = outcome (event.now 1) ∷ answered 1 (failed_with 5) ∷ outcome event.aborted ∷ answered 1
    (failed_with 103) ∷ []

-- The first world a millisecond later.
abbrev pub a_millisecond_later : World
a_millisecond_later = after_tick first_world 1

-- No mount is live, and the server holds a node still.
abbrev pub with_a_node_left : World
with_a_node_left = record first_world {
  server =
      record first_world.server {
        nodes = record {
          rows = (2, record { file = 1; generation = 1; count = 1 }) ∷ [];
          next_generation = 2;
        };
      };
}

-- The server holds a GETATTR of a node that is gone.
abbrev pub with_a_late_request : World
with_a_late_request = record first_world {
  server =
      record first_world.server {
        held = (
          2,
          record {
            body = asks (getattr 2);
            generations = (2, 1) ∷ [];
            marked = false;
          },
        ) ∷ [];
      };
}

-- No mount is live, and a copy of a reply stands on its link still.
abbrev pub with_a_copy_left : World
with_a_copy_left = record first_world { replies = record { number = 1; unique = 2; wire = done } ∷ [] }

-- No generation is left. The server holds a LOOKUP of `a`, which is file 1, while node 2 is another file.
abbrev pub with_no_generation : World
with_no_generation =
    record first_world {
      server = record first_world.server {
        tree = record {
          files = (0, a_directory) ∷ (1, a_directory) ∷ [];
          names = record { directory = 0; name = 97 ∷ []; file = 1; cookie = 1 } ∷ [];
          next_inode = 2;
          next_cookie = 2;
        };
        nodes = record {
          rows = (2, record { file = 5; generation = 1; count = 1 }) ∷ [];
          next_generation = counter_end;
        };
        held = (2, record { body = asks (lookup 1 (97 ∷ [])); generations = (1, 0) ∷ []; marked = false }) ∷ [];
      };
    }
