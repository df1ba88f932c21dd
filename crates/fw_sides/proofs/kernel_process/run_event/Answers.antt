use Rattle.std.proofs.Common.{sym, subst}
use Rattle.std.proofs.lemmas.Result.{on_ok_weaker}
use Rattle.fw_sides.specs.KernelRuns.{KernelHappens, accepted, refused}
use Rattle.fw_sides.proofs.Outputs.{whatever}
use Rattle.fw_sides.proofs.kernel_process.run_event.Goals as goal

pub returns-in-Ok : goal.returns-in-Ok
returns-in-Ok g c = on_ok_weaker c.print_kernel_step.result
    (λ e. subst (KernelHappens _ c.args.kernel.now c.args.event.now) (sym e)
    (accepted c.in-Ok.step c.step.new.self c.in-Ok.ensures.does)) c.print_kernel_step.ensures

pub returns-in-Err : goal.returns-in-Err
returns-in-Err g c = whatever c.print_refusal.result
    (subst (KernelHappens _ c.args.kernel.now c.args.event.now) (sym c.in-Err.ensures.err)
    (refused c.in-Err.refusal c.in-Err.ensures.refused))
