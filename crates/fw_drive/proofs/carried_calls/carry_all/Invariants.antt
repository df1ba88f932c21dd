use Rattle.std.specs.Prelude.{All}
use Rattle.fw_drive.specs.LineMoves.{Carries}
use Rattle.fw_drive.proofs.Following.{Went}
use Rattle.fw_drive.proofs.carried_calls.carry_all.Given as goal

-- requests so far
abbrev pub invariant-loop-request : goal.invariant-loop-request
invariant-loop-request g l =
    Went g.row.T-Heap.Denot g.D.Device.logs l.form l.initial.device l.device (g.W.Write.contents l.initial.out, l.initial.notes.is_wrong)
    (g.W.Write.contents l.out, l.notes.is_wrong) l.initial.driver l.driver (All Carries)
