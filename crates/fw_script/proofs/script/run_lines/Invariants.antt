use Rattle.std.proofs.Common.{take}
use Rattle.fw_script.proofs.Printing.{Printed}
use Rattle.fw_script.proofs.script.run_lines.Given as goal

-- what the first lines have printed
abbrev pub invariant-loop-line : goal.invariant-loop-line
invariant-loop-line g l =
    Printed g.M.Machine.acts l.hex (g.M.Machine.state l.initial.machine) (take l.line-index l.lines)
    (g.M.Machine.state l.machine) (g.W.Write.contents l.initial.out) (g.W.Write.contents l.out)
