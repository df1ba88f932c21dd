-- What stands beside the kernel's queues: the RELEASEs counted by node, and the requests of calls.
use Rattle.std.specs.Prelude.{◌≡◌, ℕ, List, [], ◌∷◌, ◌++◌}
use Rattle.fuse_spec.specs.declared.Purpose.{Purpose}
use Rattle.fuse_spec.specs.declared.Purpose.TheVariants as purpose
use Rattle.fuse_spec.specs.declared.QueuedRequest.{QueuedRequest}
use Rattle.fuse_spec.specs.Values.Maps.{remove}
use Rattle.fk_opens.specs.Pins.{HavePins}
use Rattle.fk_queues.specs.Releases.{releases_of}

-- the call that a request under a number serves, if it serves one
abbrev pub served_by : ℕ → Purpose → List (ℕ × ℕ)
served_by unique purpose.Init = []
served_by unique (purpose.Release opened) = []
served_by unique (purpose.Call call) = (unique, call) ∷ []

-- the numbers of the requests of calls, in order of queuing, each with its call
abbrev pub served_in : List (ℕ × QueuedRequest Purpose) → List (ℕ × ℕ)
served_in [] = []
served_in (e ∷ es) = served_by e.0 e.1.kept ++ served_in es

-- the requests of calls without that under a number, of which this was kept
abbrev pub without_served : ℕ → Purpose → List (ℕ × ℕ) → List (ℕ × ℕ)
without_served unique purpose.Init calls = calls
without_served unique (purpose.Release opened) calls = calls
without_served unique (purpose.Call call) calls = remove calls unique

-- Each node has as many pins as RELEASEs, and the requests of calls are these.
pub record AreRequestsKnown (requests : List (ℕ × QueuedRequest Purpose)) (releases calls : List (ℕ × ℕ)) : Type 0 where
  pub pinned : HavePins releases (releases_of requests)
  pub served : calls ≡ served_in requests
