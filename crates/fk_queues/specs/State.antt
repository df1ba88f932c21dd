-- The queues as their type shows them, and what is always true of them.
use Rattle.std.specs.Prelude.{ℕ, ◌≤◌, length}
use Rattle.fuse_spec.specs.Kernel.Queues.{QueueState, IsSound}
use Rattle.fk_queues.specs.Room.{Room}

-- the queues, and how much fits with no memory
pub record QueuesState (W : Type 0) : Type 0 where
  pub queues : QueueState W
  pub room : Room

-- what is true of the queues between two calls: each request's INTERRUPT fits with no memory
pub record AreQueuesKept {W : Type 0} (s : QueueState W) (interrupts_fit : ℕ) : Type 0 where
  pub sound : IsSound s
  pub fits : length s.requests ≤ interrupts_fit
