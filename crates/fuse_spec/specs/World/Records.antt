-- What a run of events records: of each event its outcome or refusal, and then the answers of the calls that it
-- answered.
use Rattle.std.specs.Prelude.{ℕ, List, [], map}
use Rattle.fuse_spec.specs.declared.Refusal.{Refusal}
use Rattle.fuse_spec.specs.Values.Maps.{Map}
use Rattle.fuse_spec.specs.Calls.Answers.{Answer}
use Rattle.fuse_spec.specs.World.Worlds.{World}
use Rattle.fuse_spec.specs.World.Events.{Outcome}

-- What a run records: of each event its outcome or refusal, that a link was lost, and the answer of a call.
pub data Record : Type 0 where
  outcome : (outcome : Outcome) → Record
  refused : (refusal : Refusal) → Record
  link_lost : Record
  answered : (call : ℕ) (answer : Answer) → Record

-- The answers that wait to be collected, in rising call number.
abbrev pub answers_of : Map Answer → List Record
answers_of answers = map (λ a. answered a.0 a.1) answers

-- The world once they are collected.
abbrev pub collected : World → World
collected w = record w { kernel = record w.kernel { vfs = record w.kernel.vfs { answers = [] } } }
