use Rattle.std.proofs.Common.{◌<◌, length, sym, ◌∙◌, arith}
use Rattle.fs_tree.proofs.Climbing.{within-here, within-up, within-top, within-end}
use Rattle.fs_tree.proofs.names.Names.is_below.Goals as goal

pub returns-then-at-top : goal.returns-then-at-top
returns-then-at-top g c =
    sym (c.loop-step.invariant ∙ within-here c.args.self.now c.args.top c.loop-step.at _ c.if-at-top.true)

pub returns-in-None : goal.returns-in-None
returns-in-None g c =
    let below : c.loop-step._step < length c.args.self.now = omega arith in
    sym (c.loop-step.invariant ∙ within-top c.args.self.now c.args.top c.loop-step.at _ _ below c.if-at-top.false
    (sym c.parent_of.ensures ∙ c.in-None.is))

pub loop-step-preserved : goal.loop-step-preserved
loop-step-preserved g c =
    let below : c.loop-step._step < length c.args.self.now = omega arith in
    c.loop-step.invariant ∙ within-up c.args.self.now c.args.top c.loop-step.at _ _ c.in-Some.parent below c.if-at-top.false (sym c.parent_of.ensures ∙ c.in-Some.is)

pub returns : goal.returns
returns g c = sym (c.loop-step.invariant ∙ within-end c.args.self.now c.args.top c.loop-step.at _ _ (omega arith))
