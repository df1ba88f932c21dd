use Rattle.std.proofs.Common.{◌≡◌, ℕ, ◌-◌, ◌<◌, ◌≤◌, false, length, get_or}
use Rattle.fk_fields.specs.Fields.{ends_name}
use Rattle.fk_fields.proofs.fields.are_plain.Given as goal

abbrev pub invariant-runs : goal.invariant-runs
invariant-runs l = (l.place ≤ length l.bytes) × ((k : ℕ) → k < l.place → ends_name (get_or l.bytes k 0) ≡ false)

abbrev pub decreases-runs : goal.decreases-runs
decreases-runs l = length l.bytes - l.place
