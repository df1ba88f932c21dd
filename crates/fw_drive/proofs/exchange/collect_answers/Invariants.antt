use Rattle.std.proofs.Common.{length}
use Rattle.fw_drive.specs.declared.form.Form.{Form}
use Rattle.fw_drive.proofs.Following.{Collected}
use Rattle.fw_drive.proofs.exchange.collect_answers.Given as goal

-- what was collected so far, and printed
abbrev pub invariant-loop-call : goal.invariant-loop-call
invariant-loop-call g l =
    (f : Form) → Collected g.row.T-Heap.Denot f (g.W.Write.contents l.initial.out, l.initial.notes.is_wrong) (g.W.Write.contents l.out, l.notes.is_wrong) l.initial.driver l.driver

abbrev pub decreases-loop-call : goal.decreases-loop-call
decreases-loop-call g l = length l.driver.kernel.vfs.answers
