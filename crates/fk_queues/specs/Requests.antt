-- Requests in order of queuing, which is that of their numbers, and the numbers of those unread.
use Rattle.std.specs.Prelude.{◌≡◌, ℕ, ◌<◌, List, [], ◌∷◌, T, if◌then◌else◌}
use Rattle.std.specs.Ordering.{nat_cmp}
use Rattle.std.specs.FinMap.{is_sorted}
use Rattle.std.specs.List.{All}
use Rattle.fuse_spec.specs.declared.QueuedRequest.{QueuedRequest}
use Rattle.fuse_spec.specs.Kernel.Queues.{is_unread}

-- the requests, and how many more fit with no memory
pub record RequestsState (W : Type 0) : Type 0 where
  pub entries : List (ℕ × QueuedRequest W)
  pub room : ℕ

-- each number is below those after it
abbrev pub Rises : List ℕ → Type 0
Rises [] = Unit {0}
Rises (n ∷ ns) = All (λ m. n < m) ns × Rises ns

-- the numbers of the unread requests, in order of queuing
abbrev pub unread_numbers : {W : Type 0} → List (ℕ × QueuedRequest W) → List ℕ
unread_numbers [] = []
unread_numbers (e ∷ es) = if is_unread e.1.mark then e.0 ∷ unread_numbers es else unread_numbers es

-- requests stand in rising number, and the numbers of those unread stand in the same order
pub record AreRequests {W : Type 0} (entries : List (ℕ × QueuedRequest W)) (unread : List ℕ) : Type 0 where
  pub sorted : T (is_sorted nat_cmp entries)
  pub numbers : unread ≡ unread_numbers entries
