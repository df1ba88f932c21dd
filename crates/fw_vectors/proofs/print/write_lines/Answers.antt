use Rattle.fw_vectors.proofs.Printed.{prints_more, prints_none}
use Rattle.fw_vectors.proofs.print.write_lines.Goals as goal

pub loop-vector-init : goal.loop-vector-init
loop-vector-init g c = prints_none (g.W.Write.contents c.args.out.now)

pub loop-vector-preserved : goal.loop-vector-preserved
loop-vector-preserved g c =
    let now = g.W.Write.contents in
    let line = c.in_ok-write_line.ensures in
    prints_more (now c.args.out.now) (now c.loop-vector.out) (now c.write_line.new.out) line.0 c.loop-vector.invariant
    line.1 line.2
