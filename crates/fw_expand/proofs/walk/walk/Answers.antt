use Rattle.std.proofs.Common.{◌+◌, arith, drop}
use Rattle.std.specs.Prelude.{map}
use Rattle.std.proofs.lemmas.Grind.{common_steps}
use Rattle.fw_expand.proofs.Walking.{nowhere}
use Rattle.fw_expand.proofs.walk.walk.Goals as goal

pub returns-in_err-next : goal.returns-in_err-next
returns-in_err-next g c =
    let none = nowhere (g.V.KernelView.leads c.args.kernel.now)
    (map (λ name. name.now) (drop (c.loop-name.name-index + 1) c.args.names.now)) in grind (arith, common_steps, none)
