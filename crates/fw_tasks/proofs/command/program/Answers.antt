use Rattle.std.proofs.Common.{rules, codes}
use Rattle.std.proofs.lemmas.Result.{IfOk-weaker}
use Rattle.clap.specs.Words.{new_app}
use Rattle.fw_tasks.specs.Commands.{IsCommand}
use Rattle.fw_tasks.proofs.Adding.{with_about, with_after_help, with_version}
use Rattle.fw_tasks.proofs.command.program.Goals as goal

pub returns : goal.returns
returns c =
    let new_is : IsCommand (new_app (codes "fuseworld")) c.new.result = search rules in
    let version = with_version _ _ c.version.result _ c.version.ensures new_is in
    let about = with_about _ _ c.about.result _ c.about.ensures version in
    let start = with_after_help _ _ c.after_help.result _ c.after_help.ensures about in
    let serve = c.in_ok-serve.ensures in
    let run = c.with_command-program.ensures _ _ start c.run_command.ensures in
    let socket = c.with_command-program-2.ensures _ _ run c.socket_command.ensures in
    let draw = c.with_command-program-3.ensures _ _ socket c.draw_command.ensures in
    let frame = c.with_command-program-4.ensures _ _ draw c.frame_command.ensures in
    let reply = c.with_command-program-5.ensures _ _ frame c.reply_command.ensures in
    let decode = c.with_command-program-6.ensures _ _ reply c.decode_command.ensures in
    let check = c.with_command-program-7.ensures _ _ decode c.check_command.ensures in
    let vectors = c.with_command-program-8.ensures _ _ check c.vectors_command.ensures in
    let served = c.with_command-program-9.ensures _ _ vectors serve.2 in
    let drive = c.with_command-program-10.ensures _ _ served c.drive_command.ensures in
    let kernel = c.with_command-program-11.ensures _ _ drive c.kernel_command.ensures in
    IfOk-weaker c.with_command.result _ _ (λ whole is. (serve.0, serve.1, is))
    (c.with_command.ensures _ _ kernel c.server_command.ensures)
