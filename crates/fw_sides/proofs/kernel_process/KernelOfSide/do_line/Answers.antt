use Rattle.std.proofs.Common.{subst}
use Rattle.std.proofs.lemmas.Result.{on_ok_weaker}
use Rattle.fw_sides.specs.KernelLines.{SaysLine}
use Rattle.fw_sides.specs.KernelRuns.{event, nothing}
use Rattle.fw_sides.proofs.Outputs.{whatever}
use Rattle.fw_sides.proofs.kernel_process.KernelOfSide.do_line.Goals as goal

pub returns-in-Ok-Event : goal.returns-in-Ok-Event
returns-in-Ok-Event g c = on_ok_weaker c.run_event.result
    (λ h. event c.in-Ok-Event.event (subst (SaysLine c.args.line.now) c.in-Ok-Event.field-0-is c.in-Ok-Event.ensures) c.run_event.new.kernel h) c.run_event.ensures

pub returns-in-Ok-CallWrite : goal.returns-in-Ok-CallWrite
returns-in-Ok-CallWrite g c = on_ok_weaker c.begin_write.result
    (λ does. does c.args.line.now (subst (SaysLine c.args.line.now) c.in-Ok-CallWrite.field-0-is c.in-Ok-CallWrite.ensures)) c.begin_write.ensures

pub returns-in-Ok-Show : goal.returns-in-Ok-Show
returns-in-Ok-Show g c = whatever c.show.result nothing

pub returns-in-Err : goal.returns-in-Err
returns-in-Err g c = whatever c.print_line_fault.result nothing

pub returns-then-is_passed_over : goal.returns-then-is_passed_over
returns-then-is_passed_over g c = nothing
