use Rattle.std.proofs.Common.{◌≡◌, ℕ, ◌-◌, ◌<◌, ◌≤◌, false, length, get_or}
use Rattle.fuse_protocol.specs.Ends.{is_end}
use Rattle.fuse_protocol.proofs.first_end.first_end.Given as goal

abbrev pub invariant-runs : goal.invariant-runs
invariant-runs l = (l.end ≤ length l.bytes) × ((k : ℕ) → k < l.end → is_end l.other (get_or l.bytes k 0) ≡ false)

abbrev pub invariant-bytes : goal.invariant-bytes
invariant-bytes l = (l.end ≤ length l.bytes) × ((k : ℕ) → k < l.end → is_end l.other (get_or l.bytes k 0) ≡ false)

abbrev pub decreases-runs : goal.decreases-runs
decreases-runs l = length l.bytes - l.end

abbrev pub decreases-bytes : goal.decreases-bytes
decreases-bytes l = length l.bytes - l.end
