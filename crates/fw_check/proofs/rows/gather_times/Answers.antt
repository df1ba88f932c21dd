use Rattle.std.proofs.Common.{arith}
use Rattle.std.proofs.lemmas.Grind.{common_steps}
use Rattle.std.proofs.lemmas.List.Elements.{filter_map-append}
use Rattle.fw_check.proofs.rows.gather_times.Goals.{then-time-code+in_ok-push, else-time-code}
use Rattle.fw_check.proofs.rows.gather_times.Goals as goal

pub loop-time-preserved : goal.loop-time-preserved
loop-time-preserved g c = elim c.if-time-code.branch [
  | then-time-code+in_ok-push w ↦ grind (arith, common_steps, filter_map-append, w.buffer-is)
  | else-time-code w ↦ grind (arith, common_steps, filter_map-append, w.buffer-is)
]
