use Rattle.std.proofs.Common.{subst}
use Rattle.std.proofs.lemmas.Result.{on_ok_weaker}
use Rattle.fw_sides.specs.ServerLines.{SaysServerLine}
use Rattle.fw_sides.specs.ServerRuns.{event, nothing}
use Rattle.fw_sides.proofs.Outputs.{whatever}
use Rattle.fw_sides.proofs.server_process.ServerOfSide.do_line.Goals as goal

pub returns-in-Ok-Event : goal.returns-in-Ok-Event
returns-in-Ok-Event g c = on_ok_weaker c.run_event.result
    (λ h. event c.in-Ok-Event.event (subst (SaysServerLine c.args.line.now) c.in-Ok-Event.field-0-is c.in-Ok-Event.ensures) c.run_event.new.server h) c.run_event.ensures

pub returns-in-Ok-Show : goal.returns-in-Ok-Show
returns-in-Ok-Show g c = whatever c.show.result nothing

pub returns-in-Err : goal.returns-in-Err
returns-in-Err g c = whatever c.print_line_fault.result nothing

pub returns-then-is_passed_over : goal.returns-then-is_passed_over
returns-then-is_passed_over g c = nothing
