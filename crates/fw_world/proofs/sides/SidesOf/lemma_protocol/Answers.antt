use Rattle.fuse_theorem.proofs.Refining.Refining.{kept}
use Rattle.fw_world.proofs.WorldParts.{world_of}
use Rattle.fw_world.proofs.sides.SidesOf.lemma_protocol.Goals as goal

pub returns-clause-keeps : goal.returns-clause-keeps
returns-clause-keeps g c = rw (← c.self.view_is)
    (kept (world_of c.self.inside.kernel c.self.inside.server c.self.inside.requests.items c.self.inside.replies.items c.self.inside.results.items) c.self.invariant)
