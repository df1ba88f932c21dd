use Rattle.std.proofs.Common.{[], refl, ◌∙◌}
use Rattle.fuse_spec.specs.World.Events as event
use Rattle.fk_kernel.specs.Refused.{mount_refusal}
use Rattle.fw_world.proofs.WorldParts.{is_made, world_of}
use Rattle.fw_world.proofs.EventEffects.{mounted, day_at_most, over_a_day}
use Rattle.fw_world.proofs.Refusing.{mount_refused, mount_too_long}
use Rattle.fw_world.proofs.MemoryRefusals.{judged, mount_out_of_memory}
use Rattle.fw_world.proofs.Stepped.{happened, refused}
use Rattle.fw_world.proofs.sides.SidesOf.mount.Goals as goal

pub returns-then-found_ms-gt-MAX_VALIDITY : goal.returns-then-found_ms-gt-MAX_VALIDITY
returns-then-found_ms-gt-MAX_VALIDITY g c =
    refused _ _ _ _ refl (mount_too_long c.args.self.now c.args.found_ms c.args.missing_ms c.args.minor
    (over_a_day c.args.found_ms c.args.missing_ms c.then-found_ms-gt-MAX_VALIDITY.either))

pub returns-in-Err : goal.returns-in-Err
returns-in-Err g c =
    refused _ _ _ _ (is_made (world_of c.self.inside.kernel c.self.inside.server c.self.inside.requests.items c.self.inside.replies.items c.self.inside.results.items) _ _ _ _ _ c.in-Err.ensures.err refl refl refl refl ∙ c.self.view_is) (let w = (world_of c.self.inside.kernel c.self.inside.server c.self.inside.requests.items c.self.inside.replies.items c.self.inside.results.items) in
    let day = day_at_most c.args.found_ms c.args.missing_ms c.if-found_ms-gt-MAX_VALIDITY.false c.if-missing_ms-gt-MAX_VALIDITY.false in
    rw (← c.self.view_is) (judged w (event.mount c.args.found_ms c.args.missing_ms c.args.minor)
    (mount_refusal w.kernel) c.in-Err.refusal (mount_refused w c.args.found_ms c.args.missing_ms c.args.minor day)
    (λ none is. mount_out_of_memory w c.args.found_ms c.args.missing_ms c.args.minor day none c.in-Err.refusal is) c.in-Err.ensures.refusal))

pub invariant_of-self-2 : goal.invariant_of-self-2
invariant_of-self-2 g c = (mounted (world_of c.self.inside.kernel c.self.inside.server c.self.inside.requests.items c.self.inside.replies.items c.self.inside.results.items) c.self.invariant c.mount.new.self c.remount.new.self c.clear_links.new.requests.items c.clear_links.new.replies.items c.clear_links.new.results.items c.args.found_ms c.args.missing_ms c.args.minor
    c.if-found_ms-gt-MAX_VALIDITY.false c.if-missing_ms-gt-MAX_VALIDITY.false c.in_default.ensures.judged c.in_default.ensures.mounted c.remount.ensures c.clear_links.ensures.requests c.clear_links.ensures.replies c.clear_links.ensures.results).1

pub returns : goal.returns
returns g c =
    happened _ _ _ _ (rw (← c.self.view_is)
    (mounted (world_of c.self.inside.kernel c.self.inside.server c.self.inside.requests.items c.self.inside.replies.items c.self.inside.results.items) c.self.invariant c.mount.new.self c.remount.new.self c.clear_links.new.requests.items c.clear_links.new.replies.items c.clear_links.new.results.items c.args.found_ms c.args.missing_ms c.args.minor
    c.if-found_ms-gt-MAX_VALIDITY.false c.if-missing_ms-gt-MAX_VALIDITY.false c.in_default.ensures.judged c.in_default.ensures.mounted c.remount.ensures c.clear_links.ensures.requests c.clear_links.ensures.replies c.clear_links.ensures.results).0) tt ([], refl)
