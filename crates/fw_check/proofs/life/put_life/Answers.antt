use Rattle.std.proofs.Common.{◌++◌, ◌∙◌, ap, arith}
use Rattle.fw_check.specs.Life.{life_lines}
use Rattle.fw_check.proofs.LifeLaws.{passed_all, passed_more, passed_none}
use Rattle.fw_check.proofs.life.put_life.Goals as goal

pub loop-act-init : goal.loop-act-init
loop-act-init g c = λ s is. passed_none c.args.number c.args.node c.args.count c.args.first s c.args.acts.now c.args.text.now.items is

pub loop-act-preserved : goal.loop-act-preserved
loop-act-preserved g c = λ s is. passed_more c.args.number c.args.node c.args.first s c.args.acts.now c.args.text.now.items
    c.loop-act.text.items c.put_life_text.new.text.items c.loop-act.act-index c.loop-act.doer c.doer_after-doer.result
    c.loop-act.counted c.in-Some.later c.deed_of-deed.result _ (omega arith) (c.loop-act.invariant s is)
    c.doer_after-doer.ensures c.deed_of-deed.ensures c.in-Some.ensures c.in_ok-put_life_text.ensures

pub returns : goal.returns
returns g c = λ s t is first_is. passed_all c.args.number c.args.node c.loop-act.counted c.args.first s c.args.acts.now c.args.text.now.items
    c.loop-act.text.items c.loop-act.act-index c.loop-act.doer (omega arith) (c.loop-act.invariant s is)
    ∙ ap (λ who. c.args.text.now.items ++ life_lines c.args.number c.args.node who s c.args.acts.now) first_is
