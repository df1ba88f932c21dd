-- The worlds to which lists of events lead from the first one.
use Rattle.std.specs.Prelude.{◌≤◌, length}
use Rattle.fuse_spec.specs.Values.Numbers.{max_calls}
use Rattle.fuse_spec.specs.Reference.Plain.{Plain}
use Rattle.fuse_spec.specs.World.Worlds.{World}
use Rattle.fuse_theorem.specs.AllSound.{AllSound}
use Rattle.fuse_theorem.specs.AnswersSound.{AnswersSound}

-- With some plain world all that is sound is sound, and so are the calls, of which no more are unanswered than may be.
pub record IsSoundWorld (w : World) : Type 0 where
  pub plain : Plain
  pub sound : AllSound w plain
  pub answers : AnswersSound w.kernel.vfs
  pub few : length w.kernel.vfs.calls ≤ max_calls
