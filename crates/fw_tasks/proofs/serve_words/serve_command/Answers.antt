use Rattle.std.proofs.Common.{rules, codes}
use Rattle.std.proofs.lemmas.Result.{IfOk-weaker}
use Rattle.clap.specs.Words.{new_rule, new_app}
use Rattle.fw_tasks.specs.Arguments.{IsArgument, flag, number, option_or_none}
use Rattle.fw_tasks.specs.Commands.{IsCommand, longest}
use Rattle.fw_tasks.proofs.Adding.{adds_argument, with_about}
use Rattle.fw_tasks.proofs.serve_words.serve_command.Goals as goal

pub returns : goal.returns
returns c =
    let found_is : IsArgument (number (codes "found") 0 longest (codes "1000")) c.time_argument.result = search rules in
    let missing_is : IsArgument (number (codes "missing") 0 longest (codes "0")) c.time_argument-2.result = search rules in
    let minor = c.minor_argument.ensures in
    let show_is : IsArgument (flag (codes "show")) c.flag.result = search rules in
    let trace_is : IsArgument (flag (codes "trace")) c.flag-2.result = search rules in
    let check_is : IsArgument (flag (codes "check")) c.flag-3.result = search rules in
    let capture_is : IsArgument (option_or_none (codes "capture")) c.file_argument.result = search rules in
    let socket_is : IsArgument (new_rule (codes "SOCK")) c.optional.result = search rules in
    let new_is : IsCommand (new_app (codes "serve")) c.new.result = search rules in
    let about_is = with_about _ _ c.about.result _ c.about.ensures new_is in
    let found = adds_argument _ _ _ _ _ about_is found_is c.in_ok-arg.ensures in
    let missing = adds_argument _ _ _ _ _ found missing_is c.in_ok-arg-2.ensures in
    let minors = adds_argument _ _ _ _ _ missing minor.2 c.in_ok-arg-3.ensures in
    let show = adds_argument _ _ _ _ _ minors show_is c.in_ok-arg-4.ensures in
    let trace = adds_argument _ _ _ _ _ show trace_is c.in_ok-arg-5.ensures in
    let check = adds_argument _ _ _ _ _ trace check_is c.in_ok-arg-6.ensures in
    let capture = adds_argument _ _ _ _ _ check capture_is c.in_ok-arg-7.ensures in
    IfOk-weaker c.arg-8.result _ _ (λ command adds. (minor.0, minor.1, adds_argument _ _ _ command _ capture socket_is adds))
    c.arg-8.ensures
