use Rattle.std.proofs.Common.{◌≡◌}
use Rattle.fw_check.specs.Past.{last_of}
use Rattle.fw_check.proofs.PastLaws.{older}
use Rattle.fw_check.proofs.past.last_of.Given as goal

-- the traces that the loop has passed are not it
abbrev pub invariant-loop-newer : goal.invariant-loop-newer
invariant-loop-newer g l = last_of l.is_end l.topic l.past.items ≡ last_of l.is_end l.topic (older l.past.items l.newer)
