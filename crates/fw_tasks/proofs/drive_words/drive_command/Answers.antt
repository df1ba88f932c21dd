use Rattle.std.proofs.Common.{rules, ap, ◌∙◌, codes}
use Rattle.std.proofs.lemmas.Result.{IfOk-weaker}
use Rattle.clap.specs.Words.{App, new_rule, new_app, with_rule}
use Rattle.fw_tasks.specs.Arguments.{IsArgument, flag, needed, number, option, option_or_none}
use Rattle.fw_tasks.specs.Commands.{IsCommand, last_node, longest}
use Rattle.fw_tasks.proofs.Adding.{adds_argument, with_about}
use Rattle.fw_tasks.proofs.drive_words.drive_command.Goals as goal

pub returns : goal.returns
returns c =
    let wait_is : IsArgument (number (codes "wait") 1 longest (codes "10000")) c.time_argument.result = search rules in
    let offer_is : IsArgument (option (codes "offer") (codes "0")) c.offer_argument.result = search rules in
    let calls_is : IsArgument (flag (codes "calls")) c.flag.result = search rules in
    let beside_is : IsArgument (flag (codes "beside")) c.flag-2.result = search rules in
    let opens_is : IsArgument (flag (codes "no-opendir")) c.flag-3.result = search rules in
    let trace_is : IsArgument (flag (codes "trace")) c.flag-4.result = search rules in
    let json_is : IsArgument (flag (codes "json")) c.flag-5.result = search rules in
    let new_is : IsCommand (new_app (codes "drive")) c.new.result = search rules in
    let about_is = with_about _ _ c.about.result _ c.about.ensures new_is in
    let calls = adds_argument _ _ _ _ _ about_is calls_is c.in_ok-arg.ensures in
    let beside = adds_argument _ _ _ _ _ calls beside_is c.in_ok-arg-2.ensures in
    let opens = adds_argument _ _ _ _ _ beside opens_is c.in_ok-arg-3.ensures in
    let trace = adds_argument _ _ _ _ _ opens trace_is c.in_ok-arg-4.ensures in
    let json = adds_argument _ _ _ _ _ trace json_is c.in_ok-arg-5.ensures in
    let wait = adds_argument _ _ _ _ _ json wait_is c.in_ok-arg-6.ensures in
    let all = adds_argument _ _ _ _ _ wait offer_is c.in_ok-command.ensures in
    let findings = c.in_ok-with_findings.ensures all.1 in
    let found = findings.0 ∙ ap (λ (a : App). with_rule (with_rule (with_rule a (flag (codes "check")))
    (flag (codes "report-only"))) (option_or_none (codes "capture"))) all.0 in
    let draws = c.in_ok-command-2.ensures findings.1 in
    let drawn = draws.0 ∙ ap (λ (a : App). with_rule (with_rule (with_rule (with_rule (with_rule a (flag (codes "random")))
    (flag (codes "any"))) (flag (codes "quick"))) (number (codes "seed") 0 last_node (codes "1")))
    (number (codes "events") 0 last_node (codes "400"))) found in
    let orders = c.in_ok-with_orders.ensures draws.1 in
    let ordered = orders.0 ∙ ap (λ (a : App). with_rule (with_rule (with_rule a (flag (codes "orders")))
    (flag (codes "number"))) (number (codes "nth") 0 last_node (codes "0"))) drawn in
    IfOk-weaker c.with_places.result _ _ (λ both h.
    let placed = h orders.1 in
    (placed.0 ∙ ap (λ (a : App). with_rule (with_rule a (needed (codes "FILE"))) (new_rule (codes "SOCK"))) ordered, placed.1)) c.with_places.ensures
