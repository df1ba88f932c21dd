use Rattle.std.proofs.Common.{rules, refl, codes}
use Rattle.std.proofs.lemmas.Result.{IfOk-weaker}
use Rattle.fw_tasks.specs.Arguments.{IsArgument, flag, option_or_none}
use Rattle.fw_tasks.proofs.Adding.{adds_argument}
use Rattle.fw_tasks.proofs.drive_words.with_findings.Goals as goal

pub returns : goal.returns
returns c =
    let check_is : IsArgument (flag (codes "check")) c.flag.result = search rules in
    let reports_is : IsArgument (flag (codes "report-only")) c.flag-2.result = search rules in
    let capture_is : IsArgument (option_or_none (codes "capture")) c.file_argument.result = search rules in
    IfOk-weaker c.arg-3.result _ _ (λ all adds local. adds_argument _ _ _ all _
    (adds_argument _ _ _ _ _ (adds_argument _ _ c.args.command _ _ (refl, local) check_is c.in_ok-arg.ensures) reports_is
    c.in_ok-arg-2.ensures) capture_is adds) c.arg-3.ensures
