use Rattle.std.proofs.Common.{rules, refl, codes}
use Rattle.std.proofs.lemmas.Result.{IfOk-weaker}
use Rattle.fw_tasks.specs.Arguments.{IsArgument, flag, number}
use Rattle.fw_tasks.specs.Commands.{last_node}
use Rattle.fw_tasks.proofs.Adding.{adds_argument}
use Rattle.fw_tasks.proofs.drive_words.with_draws.Goals as goal

pub returns : goal.returns
returns c =
    let random_is : IsArgument (flag (codes "random")) c.flag.result = search rules in
    let any_is : IsArgument (flag (codes "any")) c.flag-2.result = search rules in
    let quick_is : IsArgument (flag (codes "quick")) c.flag-3.result = search rules in
    let seed_is : IsArgument (number (codes "seed") 0 last_node (codes "1")) c.number_argument.result = search rules in
    let events_is : IsArgument (number (codes "events") 0 last_node (codes "400")) c.number_argument-2.result = search rules in
    IfOk-weaker c.arg-5.result _ _ (λ all adds local. adds_argument _ _ _ all _
    (adds_argument _ _ _ _ _ (adds_argument _ _ _ _ _ (adds_argument _ _ _ _ _ (adds_argument _ _ c.args.command _ _
    (refl, local) random_is c.in_ok-arg.ensures) any_is c.in_ok-arg-2.ensures) quick_is c.in_ok-arg-3.ensures) seed_is
    c.in_ok-arg-4.ensures) events_is adds) c.arg-5.ensures
