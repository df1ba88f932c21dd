use Rattle.std.proofs.Common.{refl}
use Rattle.fw_world.specs.Values.{event_of, outcome_of}
use Rattle.fw_reference.proofs.GoingOn.{steps_on}
use Rattle.fw_reference.proofs.reference.Reference.step.Goals as goal

pub returns : goal.returns
returns g c = (steps_on outcome_of _ (event_of c.args.event.now) c.step.result _ c.step.ensures.step.err c.step.ensures.step.happens, refl)
