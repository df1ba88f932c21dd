use Rattle.std.proofs.Common.{◌-◌, ◌≤◌, ℕ, List, Option, length, take}
use Rattle.std.specs.Io.KnownBytes.{Consumes}
use Rattle.fuse_device.proofs.stream.fill.Given as goal

-- the front of the room was read
pub record IsFilled (left_before left_now : Option (List ℕ)) (room : List ℕ) (done : ℕ) : Type 0 where
  pub within : done ≤ length room
  pub read : Consumes left_before left_now (take done room)

abbrev pub invariant-loop-done : goal.invariant-loop-done
invariant-loop-done g l = IsFilled (g.R.Read.remaining l.initial.from) (g.R.Read.remaining l.from) l.room l.done

abbrev pub decreases-loop-done : goal.decreases-loop-done
decreases-loop-done g l = length l.initial.room - l.done
