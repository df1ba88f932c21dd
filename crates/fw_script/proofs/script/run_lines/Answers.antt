use Rattle.fw_script.proofs.Printing.{all_ended, line_ended, line_went, nothing_printed}
use Rattle.std.proofs.lemmas.List.{take_all}
use Rattle.fw_script.proofs.script.run_lines.Goals as goal

pub loop-line-init : goal.loop-line-init
loop-line-init g c =
    nothing_printed g.M.Machine.acts c.args.hex (g.M.Machine.state c.args.machine.now) (g.W.Write.contents c.args.out.now)

pub returns-in-Err : goal.returns-in-Err
returns-in-Err g c =
    line_ended g.M.Machine.acts c.args.hex (g.M.Machine.state c.args.machine.now) (Unit {0}) c.args.lines.now
    c.loop-line.line-index _ (g.M.Machine.state c.loop-line.machine) (g.M.Machine.state c.run_line.new.machine)
    (g.W.Write.contents c.args.out.now) (g.W.Write.contents c.loop-line.out) (g.W.Write.contents c.run_line.new.out)
    c.in-Err.stop c.loop-line-test.true c.loop-line.invariant c.in-Err.ensures

pub loop-line-preserved : goal.loop-line-preserved
loop-line-preserved g c =
    line_went g.M.Machine.acts c.args.hex (g.M.Machine.state c.args.machine.now) c.args.lines.now
    c.loop-line.line-index _ (g.M.Machine.state c.loop-line.machine) (g.M.Machine.state c.run_line.new.machine)
    (g.W.Write.contents c.args.out.now) (g.W.Write.contents c.loop-line.out) (g.W.Write.contents c.run_line.new.out)
    c.in_default.field-0 c.loop-line-test.true c.loop-line.invariant c.in_default.ensures

pub returns : goal.returns
returns g c =
    all_ended g.M.Machine.acts c.args.hex (g.M.Machine.state c.args.machine.now) c.args.lines.now c.loop-line.line-index
    (g.M.Machine.state c.loop-line.machine) (g.W.Write.contents c.args.out.now) (g.W.Write.contents c.loop-line.out)
    (g.W.Write.contents c.flush.new.out) c.flush.result c.flush.ensures.refused
    (take_all c.loop-line.line-index c.args.lines.now c.loop-line-test.false) c.loop-line.invariant c.flush.ensures.bytes
