use Rattle.std.proofs.Common.{◌++◌, ◌∷◌, [], List, subst}
use Rattle.order_law.specs.Moments.{Part as PartValue}
use Rattle.fw_orders.specs.FileLines.{Make, together}
use Rattle.fw_orders.specs.Reading.{together_of}
use Rattle.fw_orders.specs.Saying.{acts_of, parts_of, step_of}
use Rattle.fw_orders.proofs.Making.{joins, leaves_out, parts_more}
use Rattle.fw_orders.proofs.Steps.{on_ok}
use Rattle.fw_orders.proofs.read.add_together.Goals as goal

pub returns-in-Err-clause-refused : goal.returns-in-Err-clause-refused
returns-in-Err-clause-refused g c said make =
    leaves_out said (parts_of c.args.parts.now.items) (parts_of c.take_group.new.parts.items)
    (acts_of c.in_ok-calls.calls.items) (step_of c.in_ok-calls.step) (together_of c.args.line) c.in-Err.why make
    c.in_ok-calls.ensures.taken c.in-Err.ensures.refused

pub returns-in-Ok-clause-added : goal.returns-in-Ok-clause-added
returns-in-Ok-clause-added g c = on_ok c.push.result
    (λ is said make. subst (λ (ps : List PartValue). Make (said ++ together (together_of c.args.line) ∷ []) ps)
    (parts_more _ _ _ is)
    (joins said (parts_of c.args.parts.now.items) (parts_of c.take_group.new.parts.items)
    (acts_of c.in_ok-calls.calls.items) (step_of c.in_ok-calls.step) (together_of c.args.line) _ _ make
    c.in_ok-calls.ensures.taken c.in-Ok.ensures.added))
    c.push.ensures.added
