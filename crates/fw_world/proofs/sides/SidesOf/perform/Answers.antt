use Rattle.std.proofs.Common.{[], refl, sym, true, ◌∙◌, ◌≡◌}
use Rattle.fw_world.proofs.WorldParts.{is_made, world_of}
use Rattle.fuse_spec.specs.World.Events as event
use Rattle.fs_server.specs.Effects.{RefusesHeld}
use Rattle.fw_world.proofs.EventEffects.{lost, performed}
use Rattle.fw_world.proofs.Refusing.{perform_refused}
use Rattle.fw_world.proofs.LastFrames.{performed_live, performed_under, shows_reply}
use Rattle.fw_world.proofs.MemoryRefusals.{looked, given_so, perform_out_of_memory, reply_takes}
use Rattle.fs_server.specs.Steps.{CanPerform}
use Rattle.fuse_spec.specs.Server.Memory.{performing_takes_memory}
use Rattle.fuse_spec.specs.Values.Maps.{get}
use Rattle.fw_world.proofs.Stepped.{happened, refused}
use Rattle.fw_world.proofs.sides.SidesOf.perform.Goals as goal

pub returns-then-not-reserve_reply : goal.returns-then-not-reserve_reply
returns-then-not-reserve_reply g c =
    refused _ _ _ _ (is_made (world_of c.self.inside.kernel c.self.inside.server c.self.inside.requests.items c.self.inside.replies.items c.self.inside.results.items) _ _ _ _ _ refl refl refl c.reserve_reply.ensures.items refl ∙ c.self.view_is) (rw (← c.self.view_is)
    (looked (world_of c.self.inside.kernel c.self.inside.server c.self.inside.requests.items c.self.inside.replies.items c.self.inside.results.items) (event.perform c.args.unique) (RefusesHeld c.self.inside.server c.args.unique) (CanPerform c.self.inside.server c.args.unique) (perform_refused (world_of c.self.inside.kernel c.self.inside.server c.self.inside.requests.items c.self.inside.replies.items c.self.inside.results.items) c.args.unique) (λ can. perform_out_of_memory (world_of c.self.inside.kernel c.self.inside.server c.self.inside.requests.items c.self.inside.replies.items c.self.inside.results.items) (c.lemma_in_range.ensures (world_of c.self.inside.kernel c.self.inside.server c.self.inside.requests.items c.self.inside.replies.items c.self.inside.results.items) refl refl) c.args.unique can
    (reply_takes (world_of c.self.inside.kernel c.self.inside.server c.self.inside.requests.items c.self.inside.replies.items c.self.inside.results.items) (c.lemma_in_range.ensures (world_of c.self.inside.kernel c.self.inside.server c.self.inside.requests.items c.self.inside.replies.items c.self.inside.results.items) refl refl) c.args.unique (c.reserve_reply.ensures.live c.if-not-reserve_reply.true) can)) c.perform_refusal.result c.refusal_or_no_memory.result c.perform_refusal.ensures.refuses c.perform_refusal.ensures.none c.refusal_or_no_memory.ensures))

pub returns-in-Err : goal.returns-in-Err
returns-in-Err g c =
    refused _ _ _ _ (is_made (world_of c.self.inside.kernel c.self.inside.server c.self.inside.requests.items c.self.inside.replies.items c.self.inside.results.items) _ _ _ _ _ refl c.in-Err.ensures.err refl c.reserve_reply.ensures.items refl ∙ c.self.view_is) (rw (← c.self.view_is)
    (given_so (world_of c.self.inside.kernel c.self.inside.server c.self.inside.requests.items c.self.inside.replies.items c.self.inside.results.items) (event.perform c.args.unique) (RefusesHeld c.self.inside.server c.args.unique) (CanPerform c.self.inside.server c.args.unique
    × (performing_takes_memory c.self.inside.server (get c.self.inside.server.held c.args.unique) ≡ true)) (perform_refused (world_of c.self.inside.kernel c.self.inside.server c.self.inside.requests.items c.self.inside.replies.items c.self.inside.results.items) c.args.unique) (λ can. perform_out_of_memory (world_of c.self.inside.kernel c.self.inside.server c.self.inside.requests.items c.self.inside.replies.items c.self.inside.results.items) (c.lemma_in_range-in-Err.ensures (world_of c.self.inside.kernel c.self.inside.server c.self.inside.requests.items c.self.inside.replies.items c.self.inside.results.items) refl (sym c.in-Err.ensures.err)) c.args.unique can.0 can.1) c.in-Err.refusal c.in-Err.ensures.refusal c.in-Err.ensures.memory))

pub invariant_of-self-2 : goal.invariant_of-self-2
invariant_of-self-2 g c = (performed (world_of c.self.inside.kernel c.self.inside.server c.self.inside.requests.items c.self.inside.replies.items c.self.inside.results.items) c.self.invariant c.self.inside.kernel c.perform.new.self c.self.inside.requests.items c.put_reply-len.new.replies.items c.self.inside.results.items c.args.unique c.in-Ok.done.errno c.in-Some.first
    (rw c.in-Some.is at c.in-Ok.ensures.performed) refl refl
    (rw (← c.reserve_reply.ensures.items) (rw c.in-Some.is at c.put_reply-len.ensures.items)) refl c.lemma_in_range-2.ensures).1

pub returns : goal.returns
returns g c =
    happened _ _ _ _ (rw (← c.self.view_is)
    (performed (world_of c.self.inside.kernel c.self.inside.server c.self.inside.requests.items c.self.inside.replies.items c.self.inside.results.items) c.self.invariant c.self.inside.kernel c.perform.new.self c.self.inside.requests.items c.put_reply-len.new.replies.items c.self.inside.results.items c.args.unique c.in-Ok.done.errno c.in-Some.first
    (rw c.in-Some.is at c.in-Ok.ensures.performed) refl refl
    (rw (← c.reserve_reply.ensures.items) (rw c.in-Some.is at c.put_reply-len.ensures.items)) refl c.lemma_in_range-2.ensures).0) (shows_reply (world_of c.self.inside.kernel c.perform.new.self c.self.inside.requests.items c.put_reply-len.new.replies.items c.self.inside.results.items) c.reserve_reply.new.replies.items c.in-Some.first c.args.unique c.put_reply-len.result (rw c.in-Some.is at c.put_reply-len.ensures.items) (performed_under c.self.inside.server c.args.unique c.in-Ok.done.errno c.in-Some.first c.perform.new.self (rw c.in-Some.is at c.in-Ok.ensures.performed)) (rw c.in-Some.is at c.put_reply-len.ensures.len)) ([], refl)

pub put_reply-len-requires : goal.put_reply-len-requires
put_reply-len-requires g c = c.reserve_reply.ensures.room c.if-not-reserve_reply.false
    (performed_live c.self.inside.server c.args.unique c.in-Ok.done.errno c.in-Some.first c.perform.new.self
    (rw c.in-Some.is at c.in-Ok.ensures.performed))

pub returns-in_default : goal.returns-in_default
returns-in_default g c =
    happened _ _ _ _ (rw (← c.self.view_is)
    (lost (world_of c.self.inside.kernel c.self.inside.server c.self.inside.requests.items c.self.inside.replies.items c.self.inside.results.items) c.self.invariant c.self.inside.kernel c.perform.new.self c.self.inside.requests.items c.reserve_reply.new.replies.items c.self.inside.results.items c.args.unique c.in-Ok.done.errno (rw c.in_default.is at c.in-Ok.ensures.performed) refl refl
    c.reserve_reply.ensures.items refl c.lemma_in_range-2.ensures).0) tt ([], refl)

pub invariant_of-self-in_default : goal.invariant_of-self-in_default
invariant_of-self-in_default g c = (lost (world_of c.self.inside.kernel c.self.inside.server c.self.inside.requests.items c.self.inside.replies.items c.self.inside.results.items) c.self.invariant c.self.inside.kernel c.perform.new.self c.self.inside.requests.items c.reserve_reply.new.replies.items c.self.inside.results.items c.args.unique c.in-Ok.done.errno (rw c.in_default.is at c.in-Ok.ensures.performed) refl refl
    c.reserve_reply.ensures.items refl c.lemma_in_range-2.ensures).1
