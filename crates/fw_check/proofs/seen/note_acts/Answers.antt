use Rattle.std.proofs.Common.{◌++◌, arith, take}
use Rattle.fw_check.proofs.PastLaws.{traced_all, traced_more, traced_none}
use Rattle.fw_check.proofs.seen.note_acts.Goals as goal

pub loop-act-init : goal.loop-act-init
loop-act-init g c = λ s stands. traced_none c.args.number s c.args.acts.now _ _ _ c.clear.ensures.items stands

pub loop-act-preserved : goal.loop-act-preserved
loop-act-preserved g c = λ s stands.
    let passed = s ++ take c.loop-act.act-index c.args.acts.now in
    traced_more c.args.number s c.args.acts.now _ _ c.loop-act.act-index _ _ _ _ _ (omega arith) (c.loop-act.invariant s stands)
    (c.in_ok-note_act.ensures passed) (c.in_ok-note_trace.ensures passed)

pub returns : goal.returns
returns g c = λ s stands.
    traced_all c.args.number s c.args.acts.now _ c.loop-act.act-index _ _ (omega arith) (c.loop-act.invariant s stands)
