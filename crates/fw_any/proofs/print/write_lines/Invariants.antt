use Rattle.fw_any.specs.Samples.{PrintsSamples}
use Rattle.fw_any.proofs.print.write_lines.Given as goal

abbrev pub invariant-loop-sample : goal.invariant-loop-sample
invariant-loop-sample g l = PrintsSamples (g.W.Write.contents l.initial.out) (g.W.Write.contents l.out)
