use Rattle.fw_vectors.specs.Vectors.{PrintsVectors}
use Rattle.fw_vectors.proofs.print.write_lines.Given as goal

abbrev pub invariant-loop-vector : goal.invariant-loop-vector
invariant-loop-vector g l = PrintsVectors (g.W.Write.contents l.initial.out) (g.W.Write.contents l.out)
