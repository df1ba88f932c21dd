use Rattle.std.proofs.Common.{◌++◌, ◌∙◌, ap, arith, take}
use Rattle.fw_check.specs.Past.{remembered}
use Rattle.fw_check.proofs.PastLaws.{next_trace}
use Rattle.fw_check.proofs.past.remember.Goals as goal

pub loop-trace-preserved : goal.loop-trace-preserved
loop-trace-preserved g c = λ all is.
    let traces = c.args.traces.now in
    let i = c.loop-trace.trace-index in
    c.in_ok-remember_one.ensures (all ++ take i traces) (c.loop-trace.invariant all is)
    ∙ ap remembered (next_trace all traces i _ (omega arith))
