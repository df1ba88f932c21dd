use Rattle.std.proofs.Common.{◌≢◌, ℕ, ◌-◌, ◌<◌, ◌≤◌, length, get_or}
use Rattle.fs_serve.proofs.names.first_nul.Given as goal

-- no byte so far is NUL
abbrev pub invariant-bytes : goal.invariant-bytes
invariant-bytes l = (l.end ≤ length l.bytes) × ((k : ℕ) → k < l.end → get_or l.bytes k 0 ≢ 0)

abbrev pub decreases-bytes : goal.decreases-bytes
decreases-bytes l = length l.bytes - l.end
