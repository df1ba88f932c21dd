-- The calls that are unanswered, and those whose answers wait to be collected.
use Rattle.std.specs.Prelude.{◌≡◌, ◌≤◌, ℕ, Some, None}
use Rattle.fuse_spec.specs.declared.Opened.{Opened}
use Rattle.fuse_spec.specs.Values.Maps.{get}
use Rattle.fuse_spec.specs.Calls.Answers.{Answer}
use Rattle.fuse_spec.specs.Calls.Vfs.{Vfs}

-- No call is both unanswered and answered, and each that is either has begun.
pub record AnswersSound (c : Vfs Opened) : Type 0 where
  pub one : (call : ℕ) (a : Answer) → get c.answers call ≡ Some a → get c.calls call ≡ None
  pub calls_below : (call : ℕ) → c.next_call ≤ call → get c.calls call ≡ None
  pub answers_below : (call : ℕ) → c.next_call ≤ call → get c.answers call ≡ None
