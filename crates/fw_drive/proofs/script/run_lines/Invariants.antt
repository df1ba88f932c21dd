use Rattle.std.proofs.Common.{take}
use Rattle.fw_drive.specs.LineMoves.{LinesMove}
use Rattle.fw_drive.proofs.Following.{Went}
use Rattle.fw_drive.proofs.script.run_lines.Given as goal

-- the lines so far made their moves
abbrev pub invariant-loop-line : goal.invariant-loop-line
invariant-loop-line g l =
    Went g.row.T-Heap.Denot g.D.Device.logs l.form l.initial.device l.device (g.W.Write.contents l.initial.out, l.initial.notes.is_wrong)
    (g.W.Write.contents l.out, l.notes.is_wrong) l.initial.driver l.driver (LinesMove l.form (take l.line-index l.lines))
