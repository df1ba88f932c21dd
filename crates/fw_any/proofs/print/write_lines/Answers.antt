use Rattle.fw_any.proofs.Printed.{prints_more, prints_none}
use Rattle.fw_any.proofs.print.write_lines.Goals as goal

pub loop-sample-init : goal.loop-sample-init
loop-sample-init g c = prints_none (g.W.Write.contents c.args.out.now)

pub loop-sample-preserved : goal.loop-sample-preserved
loop-sample-preserved g c =
    let now = g.W.Write.contents in
    let line = c.in_ok-write_line.ensures in
    prints_more (now c.args.out.now) (now c.loop-sample.out) (now c.write_line.new.out) line.0 c.loop-sample.invariant
    line.1 line.2
