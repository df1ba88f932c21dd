-- How many unanswered RELEASEs each node has.
use Rattle.std.specs.Prelude.{ℕ, ◌+◌, cond, List, [], ◌∷◌}
use Rattle.fuse_spec.specs.declared.Purpose.{Purpose}
use Rattle.fuse_spec.specs.declared.QueuedRequest.{QueuedRequest}
use Rattle.fuse_spec.specs.Kernel.Kernel.{is_released_by}

-- 1 for the RELEASE of a file of this node
abbrev pub one_release : Purpose → ℕ → ℕ
one_release purpose node = cond (is_released_by node purpose) 1 0

-- how many of the requests are RELEASEs of files of this node
abbrev pub releases_of : List (ℕ × QueuedRequest Purpose) → ℕ → ℕ
releases_of [] node = 0
releases_of (e ∷ es) node = one_release e.1.kept node + releases_of es node
