use Rattle.std.proofs.Common.{◌≡◌, ◌≤◌}
use Rattle.fw_random.specs.Parts.{parts_left}
use Rattle.fw_random.proofs.random_lines.RandomLines.choose.Given as goal

-- no event was chosen in the parts that gave no line, and no answer judged
abbrev pub invariant-loop-standing : goal.invariant-loop-standing
invariant-loop-standing g l = (l.initial.self.progress.events ≤ l.self.progress.events)
    × (l.self.has_difference ≡ l.initial.self.has_difference)

abbrev pub decreases-loop-standing : goal.decreases-loop-standing
decreases-loop-standing g l = parts_left l.self.progress.part l.self.progress.forgotten
