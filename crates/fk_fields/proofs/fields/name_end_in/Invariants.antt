use Rattle.std.proofs.Common.{◌≡◌, ℕ, ◌-◌, ◌<◌, ◌≤◌, false, length, get_or}
use Rattle.fk_fields.specs.Fields.{ends_name}
use Rattle.fk_fields.proofs.fields.name_end_in.Given as goal

abbrev pub invariant-runs : goal.invariant-runs
invariant-runs l = (l.end ≤ length l.bytes) × ((k : ℕ) → k < l.end → ends_name (get_or l.bytes k 0) ≡ false)

abbrev pub invariant-bytes : goal.invariant-bytes
invariant-bytes l = (l.end ≤ length l.bytes) × ((k : ℕ) → k < l.end → ends_name (get_or l.bytes k 0) ≡ false)

abbrev pub decreases-runs : goal.decreases-runs
decreases-runs l = length l.bytes - l.end

abbrev pub decreases-bytes : goal.decreases-bytes
decreases-bytes l = length l.bytes - l.end
