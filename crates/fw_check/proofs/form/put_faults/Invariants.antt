use Rattle.std.proofs.Common.{◌≡◌, ◌++◌, take}
use Rattle.fw_check.specs.Forms.{fault_lines}
use Rattle.fw_check.proofs.form.put_faults.Given as goal

abbrev pub invariant-loop-place : goal.invariant-loop-place
invariant-loop-place g l =
    l.text.items ≡ l.initial.text.items ++ fault_lines l.form l.number l.past.items (take l.place l.acts) (take l.place l.verdicts)
