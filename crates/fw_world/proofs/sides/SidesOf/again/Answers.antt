use Rattle.std.proofs.Common.{[], refl, sym, ◌∙◌}
use Rattle.fuse_spec.specs.World.Events as event
use Rattle.fs_server.specs.Effects.{RefusesAgain, CanSendAgain}
use Rattle.fw_world.proofs.WorldParts.{has_room, is_made, world_of}
use Rattle.fw_world.proofs.EventEffects.{copied}
use Rattle.fw_world.proofs.Refusing.{again_refused}
use Rattle.fw_world.proofs.LastFrames.{shows_reply, again_under}
use Rattle.fw_world.proofs.MemoryRefusals.{looked, given_so, again_out_of_memory}
use Rattle.fw_world.proofs.Stepped.{happened, refused}
use Rattle.fw_world.proofs.sides.SidesOf.again.Goals as goal

pub returns-then-is_err : goal.returns-then-is_err
returns-then-is_err g c =
    refused _ _ _ _ (is_made (world_of c.self.inside.kernel c.self.inside.server c.self.inside.requests.items c.self.inside.replies.items c.self.inside.results.items) _ _ _ _ _ refl refl refl c.reserve.ensures.items refl ∙ c.self.view_is) (rw (← c.self.view_is)
    (looked (world_of c.self.inside.kernel c.self.inside.server c.self.inside.requests.items c.self.inside.replies.items c.self.inside.results.items) (event.again c.args.unique) (RefusesAgain c.self.inside.server c.args.unique) (CanSendAgain c.self.inside.server c.args.unique) (again_refused (world_of c.self.inside.kernel c.self.inside.server c.self.inside.requests.items c.self.inside.replies.items c.self.inside.results.items) c.args.unique) (again_out_of_memory (world_of c.self.inside.kernel c.self.inside.server c.self.inside.requests.items c.self.inside.replies.items c.self.inside.results.items) (c.lemma_in_range.ensures (world_of c.self.inside.kernel c.self.inside.server c.self.inside.requests.items c.self.inside.replies.items c.self.inside.results.items) refl refl) c.args.unique) c.again_refusal.result c.refusal_or_no_memory.result c.again_refusal.ensures.refuses c.again_refusal.ensures.none c.refusal_or_no_memory.ensures))

pub returns-in-Err : goal.returns-in-Err
returns-in-Err g c =
    refused _ _ _ _ (is_made (world_of c.self.inside.kernel c.self.inside.server c.self.inside.requests.items c.self.inside.replies.items c.self.inside.results.items) _ _ _ _ _ refl c.in-Err.ensures.err refl c.reserve.ensures.items refl ∙ c.self.view_is) (rw (← c.self.view_is)
    (given_so (world_of c.self.inside.kernel c.self.inside.server c.self.inside.requests.items c.self.inside.replies.items c.self.inside.results.items) (event.again c.args.unique) (RefusesAgain c.self.inside.server c.args.unique) (CanSendAgain c.self.inside.server c.args.unique) (again_refused (world_of c.self.inside.kernel c.self.inside.server c.self.inside.requests.items c.self.inside.replies.items c.self.inside.results.items) c.args.unique) (again_out_of_memory (world_of c.self.inside.kernel c.self.inside.server c.self.inside.requests.items c.self.inside.replies.items c.self.inside.results.items) (c.lemma_in_range-in-Err.ensures (world_of c.self.inside.kernel c.self.inside.server c.self.inside.requests.items c.self.inside.replies.items c.self.inside.results.items) refl (sym c.in-Err.ensures.err)) c.args.unique) c.in-Err.refusal c.in-Err.ensures.refusal c.in-Err.ensures.memory))

pub invariant_of-self-2 : goal.invariant_of-self-2
invariant_of-self-2 g c = (copied (world_of c.self.inside.kernel c.self.inside.server c.self.inside.requests.items c.self.inside.replies.items c.self.inside.results.items) c.self.invariant c.self.inside.kernel c.again.new.self c.self.inside.requests.items c.put_reply-len.new.replies.items c.self.inside.results.items c.args.unique c.in-Ok.copy c.in-Ok.ensures.sent refl refl
    (rw (← c.reserve.ensures.items) c.put_reply-len.ensures.items) refl c.lemma_in_range-2.ensures).1

pub returns : goal.returns
returns g c =
    happened _ _ _ _ (rw (← c.self.view_is)
    (copied (world_of c.self.inside.kernel c.self.inside.server c.self.inside.requests.items c.self.inside.replies.items c.self.inside.results.items) c.self.invariant c.self.inside.kernel c.again.new.self c.self.inside.requests.items c.put_reply-len.new.replies.items c.self.inside.results.items c.args.unique c.in-Ok.copy c.in-Ok.ensures.sent refl refl
    (rw (← c.reserve.ensures.items) c.put_reply-len.ensures.items) refl c.lemma_in_range-2.ensures).0) (shows_reply (world_of c.self.inside.kernel c.again.new.self c.self.inside.requests.items c.put_reply-len.new.replies.items c.self.inside.results.items) c.reserve.new.self.items c.in-Ok.copy c.args.unique c.put_reply-len.result c.put_reply-len.ensures.items (again_under c.self.inside.server c.args.unique c.in-Ok.copy c.again.new.self c.in-Ok.ensures.sent) c.put_reply-len.ensures.len) ([], refl)

pub put_reply-len-requires : goal.put_reply-len-requires
put_reply-len-requires g c = has_room c.reserve.result _ _ c.reserve.ensures.ok
    (sym c.is_err.ensures.value ∙ c.if-is_err.false)
