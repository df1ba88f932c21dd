use Rattle.std.proofs.Common.{◌≡◌, ◌+◌, ℕ, List, length}
use Rattle.fw_drive.specs.Judging.{Say}
use Rattle.fw_drive.specs.Sources.{Ran}
use Rattle.fw_drive.specs.declared.line.DriveLine.{DriveLine}
use Rattle.fw_drive.proofs.given.run_given.Given as goal

-- the lines so far were given and run
abbrev pub invariant-loop-number : goal.invariant-loop-number
invariant-loop-number g l = (lines : List (List ℕ)) × g.S.LineSource.gives l.initial.source l.source lines
    × (l.number ≡ 1 + length lines)
    × ((said : List DriveLine) × Say l.form lines said
    × Ran g.row.T-Heap.Denot g.D.Device.logs l.form l.initial.device l.device (g.W.Write.contents l.initial.out, l.initial.notes.is_wrong)
    (g.W.Write.contents l.out, l.notes.is_wrong) l.initial.driver l.driver said)
