use Rattle.std.proofs.Common.{◌≡◌, ℕ, ◌-◌, ◌<◌, ◌≤◌, false, get_or}
use Rattle.fuse_protocol.specs.Ends.{is_end}
use Rattle.fuse_protocol.proofs.name_end.name_end.Given as goal

abbrev pub invariant-runs : goal.invariant-runs
invariant-runs l = (l.start ≤ l.place) × (l.place ≤ l.stop)
    × ((k : ℕ) → l.start ≤ k → k < l.place → is_end l.other (get_or l.bytes k 0) ≡ false)

abbrev pub decreases-runs : goal.decreases-runs
decreases-runs l = l.stop - l.place
