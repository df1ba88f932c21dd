use Rattle.std.proofs.Common.{[], ◌∷◌, refl, arith}
use Rattle.fuse_spec.specs.Calls.Answers.{failed}
use Rattle.fuse_spec.specs.World.Events as event
use Rattle.fuse_spec.specs.World.Records.{collected, answered, outcome}
use Rattle.fuse_spec.specs.World.Worlds.{World, after_tick, after_abort}
use Rattle.fuse_theorem.specs.Counterexamples.{with_an_early_answer}
use Rattle.fuse_theorem.specs.Recorded.{none_left, one_accepted}
use Rattle.fuse_theorem.proofs.counterexamples.answers_have_to_be_sound.Goals as goal

abbrev later : World
later = collected (after_tick with_an_early_answer 1)

abbrev last : World
last = collected (after_abort later)

pub returns : goal.returns
returns g = (
  record { root = refl; answers = tt },
  last,
  one_accepted with_an_early_answer (event.tick 1) (event.now 1) (after_tick with_an_early_answer 1) (event.abort ∷ [])
      (outcome event.aborted ∷ answered 1 (failed 103) ∷ []) last (λ file. file, tt, refl)
      (one_accepted later event.abort event.aborted (after_abort later) [] [] last (λ file. file, tt, refl)
      (none_left last)),
  λ once. once 1 3 (outcome event.mounted) (omega arith) (omega arith) refl,
)
