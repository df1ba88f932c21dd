use Rattle.std.proofs.Common.{◌++◌, ◌∙◌, ap, sym}
use Rattle.std.specs.Prelude.{codes}
use Rattle.std.proofs.lemmas.Result.{on_ok_weaker}
use Rattle.fuse_text.specs.HexTexts.{hex_or_none}
use Rattle.fk_kernel.specs.declared.step.KernelEvent.TheVariants as events
use Rattle.fw_sides.specs.KernelRuns.{event, nothing}
use Rattle.fw_sides.proofs.Outputs.{whatever}
use Rattle.fw_sides.proofs.kernel_process.write_reply.Goals as goal

pub returns-in-Ok : goal.returns-in-Ok
returns-in-Ok g c = on_ok_weaker c.run_event.result
    (λ h. event (events.Write c.as_slice.result) (ap (λ t. codes "write " ++ t)
    (c.in-Ok.ensures ∙ ap hex_or_none (sym c.as_slice.ensures.value))) c.run_event.new.kernel h) c.run_event.ensures

pub returns-in-Err : goal.returns-in-Err
returns-in-Err g c = whatever c.print_refusal.result nothing
