use Rattle.std.proofs.Common.{◌++◌, ◌∷◌, [], List, subst}
use Rattle.order_law.specs.Moments.{Part as PartValue}
use Rattle.fw_orders.specs.FileLines.{FileLine, Make, alone, one_alone}
use Rattle.fw_orders.specs.Reading.{AddsNot, LeavesOut, its_own, together_of}
use Rattle.fw_orders.specs.Saying.{act_of, parts_of}
use Rattle.fw_orders.proofs.Making.{adds_not, if_err, parts_more}
use Rattle.fw_orders.proofs.Steps.{on_ok}
use Rattle.fw_orders.proofs.read.add_line.Goals as goal

pub returns-in-Err-clause-refused : goal.returns-in-Err-clause-refused
returns-in-Err-clause-refused g c said make = its_own c.in-Err.fault c.in-Err.ensures

pub returns-in-Ok-Alone-clause-added : goal.returns-in-Ok-Alone-clause-added
returns-in-Ok-Alone-clause-added g c = on_ok c.push.result
    (λ is said make. record {
      l = alone (act_of c.in-Ok-Alone.act);
      says = rw c.in-Ok-Alone.field-0-is at c.in-Ok-Alone.ensures;
      make = subst (λ (ps : List PartValue). Make (said ++ alone (act_of c.in-Ok-Alone.act) ∷ []) ps)
          (parts_more _ _ _ is) (one_alone said (parts_of c.args.parts.now.items) make (act_of c.in-Ok-Alone.act));
    })
    c.push.ensures.added

pub returns-in-Ok-Together-clause-refused : goal.returns-in-Ok-Together-clause-refused
returns-in-Ok-Together-clause-refused g c =
    let one = together_of c.in-Ok-Together.line in
    if_err
    (λ why. (said : List FileLine) → Make said (parts_of c.args.parts.now.items) → LeavesOut said one why)
    (λ why. (said : List FileLine) → Make said (parts_of c.args.parts.now.items) → AddsNot said c.args.text.now why)
    c.add_together.result
    (λ why out said make. adds_not c.args.text.now one said
    (rw c.in-Ok-Together.field-0-is at c.in-Ok-Together.ensures) why (out said make))
    c.add_together.ensures.refused
