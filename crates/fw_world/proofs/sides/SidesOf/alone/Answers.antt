use Rattle.fw_world.proofs.Alone.{stepped}
use Rattle.fw_world.proofs.WorldParts.{world_of}
use Rattle.fw_world.proofs.sides.SidesOf.alone.Goals as goal

pub invariant_of-self : goal.invariant_of-self
invariant_of-self g c = (stepped (world_of c.self.inside.kernel c.self.inside.server c.self.inside.requests.items c.self.inside.replies.items c.self.inside.results.items) c.self.invariant c.act_alone-acted.new.kernel c.lemma_in_range.ensures c.args.event.now c.requires c.act_alone-acted.result c.act_alone-acted.ensures.does c.act_alone-acted.ensures.refusal c.act_alone-acted.ensures.err).1

pub returns : goal.returns
returns g c = rw (← c.self.view_is) (stepped (world_of c.self.inside.kernel c.self.inside.server c.self.inside.requests.items c.self.inside.replies.items c.self.inside.results.items) c.self.invariant c.act_alone-acted.new.kernel c.lemma_in_range.ensures c.args.event.now c.requires c.act_alone-acted.result c.act_alone-acted.ensures.does c.act_alone-acted.ensures.refusal c.act_alone-acted.ensures.err).0
