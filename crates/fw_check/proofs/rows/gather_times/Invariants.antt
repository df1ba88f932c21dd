use Rattle.std.proofs.Common.{◌≡◌, take}
use Rattle.fw_check.specs.Summary.{times_of}
use Rattle.fw_check.proofs.rows.gather_times.Given as goal

-- the times of the opcode among those that the loop has passed
abbrev pub invariant-loop-time : goal.invariant-loop-time
invariant-loop-time g l = l.buffer.items ≡ times_of l.code (take l.time-index l.times.items)
