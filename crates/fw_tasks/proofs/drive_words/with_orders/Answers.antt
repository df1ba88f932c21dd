use Rattle.std.proofs.Common.{rules, refl, codes}
use Rattle.std.proofs.lemmas.Result.{IfOk-weaker}
use Rattle.fw_tasks.specs.Arguments.{IsArgument, flag, number}
use Rattle.fw_tasks.specs.Commands.{last_node}
use Rattle.fw_tasks.proofs.Adding.{adds_argument}
use Rattle.fw_tasks.proofs.drive_words.with_orders.Goals as goal

pub returns : goal.returns
returns c =
    let orders_is : IsArgument (flag (codes "orders")) c.flag.result = search rules in
    let number_is : IsArgument (flag (codes "number")) c.flag-2.result = search rules in
    let nth_is : IsArgument (number (codes "nth") 0 last_node (codes "0")) c.number_argument.result = search rules in
    IfOk-weaker c.arg-3.result _ _ (λ all adds local. adds_argument _ _ _ all _
    (adds_argument _ _ _ _ _ (adds_argument _ _ c.args.command _ _ (refl, local) orders_is c.in_ok-arg.ensures) number_is
    c.in_ok-arg-2.ensures) nth_is adds) c.arg-3.ensures
