use Rattle.fw_reference.proofs.GoingOn.{then_continues}
use Rattle.fw_reference.proofs.reference.Reference.mount.Goals as goal

pub returns : goal.returns
returns g c = then_continues _ _ _ _ _ _ c.step.ensures c.serve_all.ensures
