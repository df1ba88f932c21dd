use Rattle.fuse_theorem.proofs.RefusalCases.NeverMemory.{never_link_lost}
use Rattle.fw_world.specs.Values.{event_of, outcome_of}
use Rattle.fw_world.proofs.Sending.{is_out}
use Rattle.world_sessions.specs.WorldTransfers.{mounts_at}
use Rattle.world_sessions.proofs.GoingOn.{stays}
use Rattle.fw_world.proofs.Stepping.{steps_over}
use Rattle.fw_world.proofs.Transferred.{goes_over}
use Rattle.fw_world.proofs.session.SessionOf.step.Goals as goal

pub returns-in-Err-clause-lost_before : goal.returns-in-Err-clause-lost_before
returns-in-Err-clause-lost_before g c = λ is. absurd
    (never_link_lost c.args.self.now.world (event_of c.args.event.now) c.in-Err.refusal c.in-Err.ensures.step.refusal is)

pub carry-requires-clause-out : goal.carry-requires-clause-out
carry-requires-clause-out g c = is_out c.args.self.now.world (event_of c.args.event.now)
    (outcome_of c.in-Ok.outcome) c.step.new.self c.in-Ok.ensures.step.happens

pub returns-clause-refines : goal.returns-clause-refines
returns-clause-refines g c = steps_over c.args.self.now.world c.step.new.self c.carry.new.self.world
    (event_of c.args.event.now)
    (outcome_of c.in-Ok.outcome) c.carry.new.self.is_lost c.lemma_protocol.ensures.sound c.in-Ok.ensures.step.happens c.carry.ensures.same c.carry.ensures.aborts

pub returns-clause-session : goal.returns-clause-session
returns-clause-session g c = goes_over (mounts_at (event_of c.args.event.now)) c.args.self.now.world c.step.new.self c.carry.new.self.world c.carry.new.self.is_lost c.in-Ok.ensures.session c.carry.ensures.same c.carry.ensures.aborts

pub returns-then-self-clause-session : goal.returns-then-self-clause-session
returns-then-self-clause-session g c = stays (mounts_at (event_of c.args.event.now)) c.args.self.now.world
