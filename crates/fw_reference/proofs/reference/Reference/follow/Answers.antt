use Rattle.fw_reference.proofs.GoingOn.{then_continues}
use Rattle.fw_reference.proofs.reference.Reference.follow.Goals as goal

pub returns-in_default : goal.returns-in_default
returns-in_default g c = then_continues _ _ _ _ _ _ c.step.ensures c.serve_all.ensures
