use Rattle.std.proofs.Common.{sym, subst}
use Rattle.fw_sides.specs.ServerRuns.{ServerHappens, accepted, refused}
use Rattle.fw_sides.proofs.Outputs.{whatever}
use Rattle.fw_sides.proofs.server_process.run_event.Goals as goal

pub returns-in-Ok : goal.returns-in-Ok
returns-in-Ok g c = whatever c.print_server_step.result
    (accepted c.in-Ok.step c.step.new.self c.in-Ok.ensures.does)

pub returns-in-Err : goal.returns-in-Err
returns-in-Err g c = whatever c.print_server_refused.result
    (subst (ServerHappens _ c.args.server.now c.args.event.now) (sym c.in-Err.ensures.err)
    (refused c.in-Err.refused c.in-Err.ensures.refused))
