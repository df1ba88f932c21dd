use Rattle.std.proofs.Common.{◌∷◌, [], ◌∙◌, ap, sym}
use Rattle.std.specs.Prelude.{codes, decimal}
use Rattle.std.proofs.lemmas.Result.{on_ok_weaker}
use Rattle.fk_syscalls.specs.declared.call.Call.TheVariants as call
use Rattle.fuse_text.specs.HexTexts.{hex_or_none}
use Rattle.fk_kernel.specs.declared.step.KernelEvent.TheVariants as events
use Rattle.fw_sides.specs.KernelRuns.{event, nothing}
use Rattle.fw_sides.proofs.Outputs.{whatever}
use Rattle.fw_sides.proofs.kernel_process.begin_write.Goals as goal

pub returns-in-Ok : goal.returns-in-Ok
returns-in-Ok g c = on_ok_weaker c.run_event.result
    (λ h text says. event (events.Call (call.Write c.args.place.0 c.args.place.1 c.as_slice-bytes.result))
    (says.0 ∙ ap (λ t. codes "call" ∷ codes "write" ∷ decimal c.args.place.0 ∷ decimal c.args.place.1 ∷ t ∷ [])
    (c.in-Ok.ensures ∙ ap hex_or_none (sym c.as_slice-bytes.ensures.value))) c.run_event.new.kernel h) c.run_event.ensures

pub returns-in-Err : goal.returns-in-Err
returns-in-Err g c = whatever c.print_refusal.result (λ text says. nothing)
