use Rattle.std.proofs.Common.{rules, refl, codes}
use Rattle.std.proofs.lemmas.Result.{IfOk-weaker}
use Rattle.clap.specs.Words.{new_rule}
use Rattle.fw_tasks.specs.Arguments.{IsArgument, needed}
use Rattle.fw_tasks.proofs.Adding.{adds_argument}
use Rattle.fw_tasks.proofs.drive_words.with_places.Goals as goal

pub returns : goal.returns
returns c =
    let file_is : IsArgument (needed (codes "FILE")) c.needed.result = search rules in
    let socket_is : IsArgument (new_rule (codes "SOCK")) c.optional.result = search rules in
    IfOk-weaker c.arg-2.result _ _ (λ both adds local. adds_argument _ _ _ both _
    (adds_argument _ _ c.args.command _ _ (refl, local) file_is c.in_ok-arg.ensures) socket_is adds) c.arg-2.ensures
