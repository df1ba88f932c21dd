-- What a run leaves of the calls that are over.
use Rattle.std.specs.Prelude.{◌≡◌, ◌≤◌, ◌<◌, ℕ, Some, None}
use Rattle.fuse_spec.specs.declared.Opened.{Opened}
use Rattle.fuse_spec.specs.Calls.Answers.{Answer}
use Rattle.fuse_spec.specs.Calls.Vfs.{Vfs}
use Rattle.fuse_spec.specs.Values.Maps.{get}

-- A call that has begun and waits no longer never waits again, and an answer that it has later is the one that it had.
pub record AnsweredOnce (old new : Vfs Opened) : Type 0 where
  pub numbers : old.next_call ≤ new.next_call
  pub over : (call : ℕ) → call < old.next_call → get old.calls call ≡ None → get new.calls call ≡ None
  pub same : (call : ℕ) → call < old.next_call → get old.calls call ≡ None → (answer : Answer)
      → get new.answers call ≡ Some answer → get old.answers call ≡ Some answer
