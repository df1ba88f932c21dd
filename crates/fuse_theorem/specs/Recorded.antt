-- What is recorded of a list of events.
use Rattle.std.specs.Prelude.{List, [], ◌∷◌, ◌++◌}
use Rattle.fuse_spec.specs.World.Worlds.{World}
use Rattle.fuse_spec.specs.World.Events.{Event, Outcome}
use Rattle.fuse_spec.specs.declared.Refusal.{Refusal}
use Rattle.fuse_spec.specs.World.Records.{Record, outcome, refused, answers_of, collected}
use Rattle.fuse_spec.specs.World.Steps.{Happens, RefusedWith}

-- The records of a list of events, as the machine alone gives them.
pub data Recorded : World → List Event → List Record → World → Type 0 where
  none_left : (w : World) → Recorded w [] [] w
  one_refused : (w : World) (event : Event) (refusal : Refusal) (events : List Event) (records : List Record)
      (after : World)
      → RefusedWith w event refusal → Recorded w events records after
      → Recorded w (event ∷ events) (refused refusal ∷ records) after
  one_accepted : (w : World) (event : Event) (o : Outcome) (mid : World) (events : List Event) (records : List Record)
      (after : World)
      → Happens w event o mid → Recorded (collected mid) events records after
      → Recorded w (event ∷ events) (outcome o ∷ answers_of mid.kernel.vfs.answers ++ records) after
