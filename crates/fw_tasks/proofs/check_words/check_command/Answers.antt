use Rattle.std.proofs.Common.{rules, codes}
use Rattle.std.proofs.lemmas.Result.{IfOk-weaker}
use Rattle.clap.specs.Words.{new_rule, new_app}
use Rattle.fw_tasks.specs.Arguments.{IsArgument, flag, number}
use Rattle.fw_tasks.specs.Commands.{IsCommand, last_node}
use Rattle.fw_tasks.proofs.Adding.{adds_argument, with_about}
use Rattle.fw_tasks.proofs.check_words.check_command.Goals as goal

pub returns : goal.returns
returns c =
    let server_is : IsArgument (flag (codes "server")) c.flag.result = search rules in
    let kernel_is : IsArgument (flag (codes "kernel")) c.flag-2.result = search rules in
    let json_is : IsArgument (flag (codes "json")) c.flag-3.result = search rules in
    let node_is : IsArgument (number (codes "node") 0 last_node (codes "0")) c.node_argument.result = search rules in
    let summary_is : IsArgument (flag (codes "summary")) c.flag-4.result = search rules in
    let strict_is : IsArgument (flag (codes "strict")) c.flag-5.result = search rules in
    let joined_is : IsArgument (flag (codes "joined")) c.flag-6.result = search rules in
    let file_is : IsArgument (new_rule (codes "FILE")) c.capture_argument.result = search rules in
    let new_is : IsCommand (new_app (codes "check")) c.new.result = search rules in
    let about_is = with_about _ _ c.about.result _ c.about.ensures new_is in
    let server = adds_argument _ _ _ _ _ about_is server_is c.in_ok-arg.ensures in
    let kernel = adds_argument _ _ _ _ _ server kernel_is c.in_ok-arg-2.ensures in
    let json = adds_argument _ _ _ _ _ kernel json_is c.in_ok-arg-3.ensures in
    let node = adds_argument _ _ _ _ _ json node_is c.in_ok-arg-4.ensures in
    let summary = adds_argument _ _ _ _ _ node summary_is c.in_ok-arg-5.ensures in
    let strict = adds_argument _ _ _ _ _ summary strict_is c.in_ok-arg-6.ensures in
    let joined = adds_argument _ _ _ _ _ strict joined_is c.in_ok-arg-7.ensures in
    IfOk-weaker c.arg-8.result _ _ (λ command adds. adds_argument _ _ _ command _ joined file_is adds) c.arg-8.ensures
