use Rattle.fw_world.specs.Values.{event_of}
use Rattle.fw_world.proofs.Stepping.{steps_as}
use Rattle.fw_world.proofs.Transferred.{goes_on}
use Rattle.fw_world.proofs.sides.SidesOf.step.Goals as goal

pub returns-clause-refines : goal.returns-clause-refines
returns-clause-refines g c =
    steps_as c.args.self.now c.dispatch.new.self c.args.event.now c.lemma_protocol.ensures.sound c.dispatch.result c.dispatch.ensures.happens

pub returns-clause-session : goal.returns-clause-session
returns-clause-session g c =
    goes_on c.args.self.now c.dispatch.new.self (event_of c.args.event.now) c.dispatch.result c.dispatch.ensures
