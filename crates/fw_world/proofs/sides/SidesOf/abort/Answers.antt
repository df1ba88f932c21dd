use Rattle.std.proofs.Common.{[], inl, refl, ◌∙◌}
use Rattle.fw_world.proofs.WorldParts.{is_made, world_of}
use Rattle.fw_world.proofs.EventEffects.{aborted}
use Rattle.fw_world.proofs.Interrupts.{abort_refused}
use Rattle.fw_world.proofs.Stepped.{happened, refused}
use Rattle.fw_world.proofs.sides.SidesOf.abort.Goals as goal

pub returns-in-Err : goal.returns-in-Err
returns-in-Err g c =
    refused _ _ _ _ (is_made (world_of c.self.inside.kernel c.self.inside.server c.self.inside.requests.items c.self.inside.replies.items c.self.inside.results.items) _ _ _ _ _ c.in-Err.ensures.err refl refl refl refl ∙ c.self.view_is) (inl (rw (← c.self.view_is)
    (abort_refused (world_of c.self.inside.kernel c.self.inside.server c.self.inside.requests.items c.self.inside.replies.items c.self.inside.results.items) c.in-Err.refusal c.in-Err.ensures.refusal)))

pub invariant_of-self-2 : goal.invariant_of-self-2
invariant_of-self-2 g c = (aborted (world_of c.self.inside.kernel c.self.inside.server c.self.inside.requests.items c.self.inside.replies.items c.self.inside.results.items) c.self.invariant c.abort.new.self c.connection_lost.new.self c.clear_links.new.requests.items c.clear_links.new.replies.items c.clear_links.new.results.items
    c.in_default.ensures.judged c.in_default.ensures.aborted c.connection_lost.ensures c.clear_links.ensures.requests c.clear_links.ensures.replies c.clear_links.ensures.results).1

pub returns : goal.returns
returns g c =
    happened _ _ _ _ (rw (← c.self.view_is)
    (aborted (world_of c.self.inside.kernel c.self.inside.server c.self.inside.requests.items c.self.inside.replies.items c.self.inside.results.items) c.self.invariant c.abort.new.self c.connection_lost.new.self c.clear_links.new.requests.items c.clear_links.new.replies.items c.clear_links.new.results.items
    c.in_default.ensures.judged c.in_default.ensures.aborted c.connection_lost.ensures c.clear_links.ensures.requests c.clear_links.ensures.replies c.clear_links.ensures.results).0) tt ([], refl)
