use Rattle.std.proofs.Common.{List, Option, OnOk, arith, ap, subst, sym, ◌∙◌, rules, ◌≡◌, ◌<◌, ◌++◌, ◌∷◌, [], length, None}
use Rattle.fw_orders.specs.declared.act.Act.{Act}
use Rattle.fw_orders.specs.Saying.{act_of, acts_of, step_of}
use Rattle.fw_orders.proofs.ReadLines.{call_joined, step_joined}
use Rattle.fw_orders.proofs.read.add_to_group.Goals as goal

pub returns-in-Call-2-clause-added : goal.returns-in-Call-2-clause-added
returns-in-Call-2-clause-added g c =
    call_joined c.args.calls.now.items c.push.new.list.items (step_of c.args.step.now) c.in-Call-2.act c.args.line
    c.push.result c.in-Call-2.is (search rules) c.push.ensures.added

pub returns-in-Step-2-clause-added : goal.returns-in-Step-2-clause-added
returns-in-Step-2-clause-added g c =
    step_joined (acts_of c.args.calls.now.items) c.args.step.now c.in-Step-2.act c.args.line c.in-Step-2.is (search rules)
