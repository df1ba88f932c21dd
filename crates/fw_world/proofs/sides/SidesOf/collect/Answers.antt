use Rattle.fw_world.proofs.WorldParts.{world_of, call_collected_is_sound}
use Rattle.fw_world.proofs.Stepping.{collect_refines}
use Rattle.fw_world.proofs.Transferred.{goes_collecting}
use Rattle.fw_world.proofs.sides.SidesOf.collect.Goals as goal

pub invariant_of-self : goal.invariant_of-self
invariant_of-self g c = call_collected_is_sound
    (world_of c.self.inside.kernel c.self.inside.server c.self.inside.requests.items c.self.inside.replies.items c.self.inside.results.items) c.collect.new.self c.collect.result c.collect.ensures.none c.collect.ensures.taken c.self.invariant

pub returns-clause-refines : goal.returns-clause-refines
returns-clause-refines g c = rw (← c.self.view_is)
    (collect_refines (world_of c.self.inside.kernel c.self.inside.server c.self.inside.requests.items c.self.inside.replies.items c.self.inside.results.items) c.collect.new.self c.self.invariant c.collect.result c.collect.ensures.taken)

pub returns-clause-session : goal.returns-clause-session
returns-clause-session g c = rw (← c.self.view_is)
    (goes_collecting (world_of c.self.inside.kernel c.self.inside.server c.self.inside.requests.items c.self.inside.replies.items c.self.inside.results.items) c.collect.new.self c.collect.result c.collect.ensures.none c.collect.ensures.taken)
