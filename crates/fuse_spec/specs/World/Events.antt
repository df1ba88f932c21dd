-- What may happen, what comes of it, and why it may be refused.
use Rattle.std.specs.Prelude.{ℕ, Bool}
use Rattle.fuse_spec.specs.declared.Minor.{Minor}
use Rattle.fuse_spec.specs.Calls.Paths.{Name}
use Rattle.fuse_spec.specs.Calls.Calls.{Call}
use Rattle.fuse_spec.specs.declared.IntrEffect.{IntrEffect}
use Rattle.fuse_spec.specs.declared.WriteResult.{WriteResult}
use Rattle.fuse_spec.specs.declared.Taken.{Taken}

-- What may happen in one atomic step; a place k counts from 0 among the pending requests or on a link. (this project's
-- rule)
pub data Event : Type 0 where
  mount : (found_ms missing_ms : ℕ) (minor : Minor) → Event
  call : (call : Call) → Event
  read_interrupt : Event
  read_forgets : (n : ℕ) → Event
  read_pending : (k : ℕ) → Event
  take : (k : ℕ) → Event
  perform : (unique : ℕ) → Event
  again : (unique : ℕ) → Event
  write : (k : ℕ) → Event
  settle : (k : ℕ) → Event
  intr : (call : ℕ) (fatal : Bool) → Event
  tick : (ms : ℕ) → Event
  drop_name : (directory : ℕ) (name : Name) → Event
  evict : (node : ℕ) → Event
  abort : Event

-- The outcome of an event that is accepted. The opcodes and lengths that are printed are those of the frames.
pub data Outcome : Type 0 where
  mounted : Outcome
  begun : (call : ℕ) → Outcome
  is_read : (unique : ℕ) → Outcome
  taken : (unique : ℕ) (word : Taken) → Outcome
  performed : (unique errno : ℕ) (lost : Bool) → Outcome
  sent_again : (unique : ℕ) → Outcome
  written : (unique : ℕ) (result : WriteResult) → Outcome
  settled : (unique : ℕ) (result : WriteResult) → Outcome
  interrupted : (call : ℕ) (effect : IntrEffect) → Outcome
  now : (clock : ℕ) → Outcome
  dropped : Outcome
  evicted : (node count : ℕ) → Outcome
  aborted : Outcome
