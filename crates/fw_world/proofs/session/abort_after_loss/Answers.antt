use Rattle.fw_world.proofs.Losing.{link_fails}
use Rattle.fw_world.proofs.session.abort_after_loss.Goals as goal

pub returns : goal.returns
returns g c = link_fails c.args.world.now c.step-aborted.new.self c.step-aborted.result c.lemma_protocol.ensures.sound c.requires c.step-aborted.ensures.step.refusal c.step-aborted.ensures.step.happens
