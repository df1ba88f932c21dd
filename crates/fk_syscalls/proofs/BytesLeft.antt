-- How a walk ends.
use Rattle.std.proofs.Common.{ℕ, suc, ◌-◌, List, Option, Some, None, length}

-- how many bytes are left from a place on, and one more where there is a place
abbrev pub bytes_left : List ℕ → Option ℕ → ℕ
bytes_left bytes None = 0
bytes_left bytes (Some place) = suc (length bytes - place)
